pub mod Transaction
