-- What reading and writing a mesh file (request L3) answer and leave, from their definitions: each answer exactly where document 02 gives it.
use Prim.Native.Nat.{ℕ, ◌≤◌, ◌<◌}
use native.Mathlib.Omega.{arith}
use mathlib.Core.Path.{◌≡◌, refl, ap, sym, subst, ◌∙◌}
use native.Mathlib.Decide.{dec_lt}
use mathlib.Core.Logic.{◌↔◌}
use mathlib.Core.Bool.{Bool, true, false, not, cond}
use lib.ListN.{length, take, drop, length-append, length-drop}
use lib.Seq.{take-append_seam, drop-append_seam}
use lib.Dec.{T, eqb}
use borrow.Author.Tests.{le-ltb, lt-ltb, ne_eqb}
use Rattle.rules.specs.declared.Refusal.TheVariants.{Tables, TopologyMalformed}
use Rattle.rules.specs.Answer.{Done, Refused}
use Rattle.rules.specs.Mesh.{Mesh, Room}
use Rattle.rules.specs.Sound.{sound}
use Rattle.rules.specs.Step.{told, number_of}
use Rattle.rules.specs.Call.{zeroed, check_mesh, finished}
use Rattle.rules.specs.Script.{Text}
use Rattle.proved.proofs.Rows.{true-T, differ}
use Rattle.file.specs.File.{FileWritten, file_of, length_fits, in_place, contents_in, mesh_of, sizes_serve, tables_hold, read_number, read_file, wrote, check_refuses, write_file}
use Rattle.file.specs.Promises.{ReadAnswers, ReadLeaves, WriteLeaves}
use Rattle.file.proofs.ReadWrite.{passed}

-- ---- answers in order

-- a test that refuses with k, and what comes after it
abbrev refuses : Bool → ℕ → ℕ → ℕ
refuses b k rest = cond (not b) k rest

-- another answer is given where the test passes and what comes after gives it
passes : {P : Type 0} (b : Bool) (k rest x : ℕ) → (k ≡ x → ⊥) → (rest ≡ x) ↔ P → (refuses b k rest ≡ x) ↔ (T b × P)
passes true k rest x ne h = (λ e. (tt, h.0 e), λ w. h.1 w.1)
passes false k rest x ne h = (λ e. absurd (ne e), λ w. absurd w.0)

-- its own where it fails
fails : (b : Bool) (k rest : ℕ) → (rest ≡ k → ⊥) → (refuses b k rest ≡ k) ↔ (T b → ⊥)
fails true k rest ne = (λ e. absurd (ne e), λ h. absurd (h tt))
fails false k rest ne = (λ e t. t, λ h. refl)

never : (b : Bool) (k rest x : ℕ) → (k ≡ x → ⊥) → (rest ≡ x → ⊥) → refuses b k rest ≡ x → ⊥
never true k rest x ne h e = h e
never false k rest x ne h e = ne e

-- the last test
abbrev lastly : Bool → ℕ
lastly b = cond b 0 12

last-0 : (b : Bool) → (lastly b ≡ 0) ↔ T b
last-0 true = (λ e. tt, λ h. refl)
last-0 false = (λ e. let z : ⊥ = omega arith in z, λ h. absurd h)

last-12 : (b : Bool) → (lastly b ≡ 12) ↔ (T b → ⊥)
last-12 true = (λ e. absurd (let z : ⊥ = omega arith in z), λ h. absurd (h tt))
last-12 false = (λ e t. t, λ h. refl)

last-not : (b : Bool) (x : ℕ) → (0 ≡ x → ⊥) → (12 ≡ x → ⊥) → lastly b ≡ x → ⊥
last-not true x a c e = a e
last-not false x a c e = c e

module _ (lent : Mesh) (one two : Room) (text : Text) where
  -- the number is that of the first test that fails
  number_is : (read_file lent one two text).number
      ≡ refuses (sizes_serve lent one two) 1
      (refuses (length_fits text) 10
      (refuses (in_place text) 11
      (refuses (tables_hold lent (contents_in text)) 7 (lastly (sound (mesh_of lent (contents_in text)))))))
  unfolding read_file
  number_is = go (sizes_serve lent one two) refl
    where
      rest : ℕ
      rest = refuses (length_fits text) 10 (refuses (in_place text) 11 (refuses (tables_hold lent (contents_in text)) 7 (lastly (sound (mesh_of lent (contents_in text))))))

      go : (b : Bool) → sizes_serve lent one two ≡ b → (read_file lent one two text).number ≡ refuses (sizes_serve lent one two) 1 rest
      go true e = rw e (unfold read_number in refl)
      go false e = rw e

  apart : (a b : ℕ) → T (not (eqb a b)) → a ≡ b → ⊥
  apart a b h e = differ a b h e

  pub read-answers : ReadAnswers lent one two text
  read-answers =
      record { sizes-1 = sizes-1; length-10 = length-10; places-11 = places-11; room-7 = room-7; unsound-12 = unsound-12; accepted-0 = accepted-0 }
    where
      a : Bool
      a = sizes_serve lent one two

      b : Bool
      b = length_fits text

      p : Bool
      p = in_place text

      q : Bool
      q = tables_hold lent (contents_in text)

      s : Bool
      s = sound (mesh_of lent (contents_in text))

      r₄ : ℕ
      r₄ = lastly s

      r₃ : ℕ
      r₃ = refuses q 7 r₄

      r₂ : ℕ
      r₂ = refuses p 11 r₃

      r₁ : ℕ
      r₁ = refuses b 10 r₂

      by : {x : ℕ} {P : Type 0} → (refuses a 1 r₁ ≡ x) ↔ P → ((read_file lent one two text).number ≡ x) ↔ P
      by h = (λ e. h.0 (sym number_is ∙ e), λ w. number_is ∙ h.1 w)

      sizes-1 : ((read_file lent one two text).number ≡ 1) ↔ (T a → ⊥)
      sizes-1 =
          by (fails a 1 r₁ (never b 10 r₂ 1 (apart 10 1 tt) (never p 11 r₃ 1 (apart 11 1 tt) (never q 7 r₄ 1 (apart 7 1 tt) (last-not s 1 (apart 0 1 tt) (apart 12 1 tt))))))

      length-10 : ((read_file lent one two text).number ≡ 10) ↔ (T a × (T b → ⊥))
      length-10 =
          by (passes a 1 r₁ 10 (apart 1 10 tt)
          (fails b 10 r₂ (never p 11 r₃ 10 (apart 11 10 tt) (never q 7 r₄ 10 (apart 7 10 tt) (last-not s 10 (apart 0 10 tt) (apart 12 10 tt))))))

      places-11 : ((read_file lent one two text).number ≡ 11) ↔ (T a × (T b × (T p → ⊥)))
      places-11 =
          by (passes a 1 r₁ 11 (apart 1 11 tt) (passes b 10 r₂ 11 (apart 10 11 tt)
          (fails p 11 r₃ (never q 7 r₄ 11 (apart 7 11 tt) (last-not s 11 (apart 0 11 tt) (apart 12 11 tt))))))

      room-7 : ((read_file lent one two text).number ≡ 7) ↔ (T a × (T b × (T p × (T q → ⊥))))
      room-7 =
          by (passes a 1 r₁ 7 (apart 1 7 tt) (passes b 10 r₂ 7 (apart 10 7 tt) (passes p 11 r₃ 7 (apart 11 7 tt)
          (fails q 7 r₄ (last-not s 7 (apart 0 7 tt) (apart 12 7 tt))))))

      unsound-12 : ((read_file lent one two text).number ≡ 12) ↔ (T a × (T b × (T p × (T q × (T s → ⊥)))))
      unsound-12 =
          by (passes a 1 r₁ 12 (apart 1 12 tt) (passes b 10 r₂ 12 (apart 10 12 tt) (passes p 11 r₃ 12 (apart 11 12 tt)
          (passes q 7 r₄ 12 (apart 7 12 tt) (last-12 s)))))

      accepted-0 : ((read_file lent one two text).number ≡ 0) ↔ (T a × (T b × (T p × (T q × T s))))
      accepted-0 =
          by (passes a 1 r₁ 0 (apart 1 0 tt) (passes b 10 r₂ 0 (apart 10 0 tt) (passes p 11 r₃ 0 (apart 11 0 tt)
          (passes q 7 r₄ 0 (apart 7 0 tt) (last-0 s)))))

  pub read-leaves : ReadLeaves lent one two text
  unfolding read_file
  read-leaves =
      record {
        refused-keeps = λ h. keeps (sizes_serve lent one two) refl h;
        accepted-sound = λ e. let w = passed lent one two text e in subst (λ (m : Mesh). T (sound m)) (sym w.leaves) w.is-sound;
        rooms-kept = λ e. let no_room = read-answers.sizes-1.0 e in kept (sizes_serve lent one two) refl no_room;
        rooms-zero = λ h. cleared (sizes_serve lent one two) refl (λ n. h (read-answers.sizes-1.1 n));
      }
    where
      keeps : (b : Bool) → sizes_serve lent one two ≡ b → ((read_file lent one two text).number ≡ 0 → ⊥) → (read_file lent one two text).mesh ≡ lent
      keeps false e h = rw e
      keeps true e h =
          let number : (read_file lent one two text).number ≡ read_number lent text = rw e in
          rw (e, ne_eqb (read_number lent text) 0 (λ z. h (number ∙ z)))

      kept : (b : Bool) → sizes_serve lent one two ≡ b → (T (sizes_serve lent one two) → ⊥) → ((read_file lent one two text).one ≡ one) × ((read_file lent one two text).two ≡ two)
      kept false e n = (rw e, rw e)
      kept true e n = absurd (n (true-T e))

      cleared : (b : Bool) → sizes_serve lent one two ≡ b → ((T (sizes_serve lent one two) → ⊥) → ⊥)
          → ((read_file lent one two text).one ≡ zeroed one) × ((read_file lent one two text).two ≡ zeroed two)
      cleared true e n = (rw e, rw e)
      cleared false e n = absurd (n (λ t. subst T e t))

-- ---- writing

-- the check answers 1 exactly for an unsound mesh
pub check-refuses : (m : Mesh) → check_refuses m ≡ not (sound m)
unfolding check_refuses check_mesh told number_of
check-refuses m = go (sound m) (finished m)
  where
    go : (s f : Bool) → eqb (told (cond (not s) (Refused Tables) (cond f Done (Refused TopologyMalformed)))).number 1 ≡ not s
    go true true = refl
    go true false = refl
    go false f = refl

module _ (m : Mesh) (out : Text) where
  unsound-is : sound m ≡ false → write_file m out ≡ record { number = 1; count = 0; bytes = out }
  unfolding write_file
  unsound-is e = rw (check-refuses m, e)

  few-is : sound m ≡ true → length out < length (file_of m) → write_file m out ≡ record { number = 7; count = 0; bytes = out }
  unfolding write_file
  few-is e l = rw (check-refuses m, e, lt-ltb (length out) (length (file_of m)) l)

  written_is : sound m ≡ true → length (file_of m) ≤ length out → write_file m out ≡ record { number = 0; count = length (file_of m); bytes = wrote out (file_of m) }
  unfolding write_file
  written_is e l = rw (check-refuses m, e, le-ltb (length out) (length (file_of m)) l)

  pub write-leaves : WriteLeaves m out
  write-leaves = go (sound m) refl (dec_lt (length out) (length (file_of m)))
    where
      front : take (length (file_of m)) (wrote out (file_of m)) ≡ file_of m
      front = unfold wrote in take-append_seam (file_of m) (drop (length (file_of m)) out)

      back : drop (length (file_of m)) (wrote out (file_of m)) ≡ drop (length (file_of m)) out
      back = unfold wrote in drop-append_seam (file_of m) (drop (length (file_of m)) out)

      long : length (file_of m) ≤ length out → length (wrote out (file_of m)) ≡ length out
      long h =
          unfold wrote in
          length-append (file_of m) (drop (length (file_of m)) out) ∙ omega (arith, length-drop (length (file_of m)) out)

      go : (s : Bool) → sound m ≡ s → Dec (length out < length (file_of m)) → WriteLeaves m out
      go false e d =
          let n : (write_file m out).number ≡ 1 = ap (λ (w : FileWritten). w.number) (unsound-is e) in
          let b : (write_file m out).bytes ≡ out = ap (λ (w : FileWritten). w.bytes) (unsound-is e) in
          record {
            unsound-1 = (λ q t. subst T e t, λ h. n);
            few-7 = (λ q. absurd (let z : ⊥ = omega arith in z), λ w. absurd (subst T e w.0));
            written-0 = (λ q. absurd (let z : ⊥ = omega arith in z), λ w. absurd (subst T e w.0));
            length-returned = λ q. absurd (let z : ⊥ = omega arith in z);
            file-written = λ q. absurd (let z : ⊥ = omega arith in z);
            others-stay = ap (λ (t : Text). drop (length (file_of m)) t) b;
            as_many = ap (λ (t : Text). length t) b;
            refused-keeps = λ h. (b, ap (λ (w : FileWritten). w.count) (unsound-is e));
          }
      go true e (yes l) =
          let n : (write_file m out).number ≡ 7 = ap (λ (w : FileWritten). w.number) (few-is e l) in
          let b : (write_file m out).bytes ≡ out = ap (λ (w : FileWritten). w.bytes) (few-is e l) in
          record {
            unsound-1 = (λ q. absurd (let z : ⊥ = omega arith in z), λ h. absurd (h (true-T e)));
            few-7 = (λ q. (true-T e, l), λ w. n);
            written-0 = (λ q. absurd (let z : ⊥ = omega arith in z), λ w. let enough = w.1 in absurd (let z : ⊥ = omega arith in z));
            length-returned = λ q. absurd (let z : ⊥ = omega arith in z);
            file-written = λ q. absurd (let z : ⊥ = omega arith in z);
            others-stay = ap (λ (t : Text). drop (length (file_of m)) t) b;
            as_many = ap (λ (t : Text). length t) b;
            refused-keeps = λ h. (b, ap (λ (w : FileWritten). w.count) (few-is e l));
          }
      go true e (no l) =
          let enough : length (file_of m) ≤ length out = omega arith in
          let n : (write_file m out).number ≡ 0 = ap (λ (w : FileWritten). w.number) (written_is e enough) in
          let b : (write_file m out).bytes ≡ wrote out (file_of m) = ap (λ (w : FileWritten). w.bytes) (written_is e enough) in
          record {
            unsound-1 = (λ q. absurd (let z : ⊥ = omega arith in z), λ h. absurd (h (true-T e)));
            few-7 = (λ q. absurd (let z : ⊥ = omega arith in z), λ w. let few = w.1 in absurd (let z : ⊥ = omega arith in z));
            written-0 = (λ q. (true-T e, enough), λ w. n);
            length-returned = λ q. ap (λ (w : FileWritten). w.count) (written_is e enough);
            file-written = λ q. ap (λ (t : Text). take (length (file_of m)) t) b ∙ front;
            others-stay = ap (λ (t : Text). drop (length (file_of m)) t) b ∙ back;
            as_many = ap (λ (t : Text). length t) b ∙ long enough;
            refused-keeps = λ h. absurd (h n);
          }
