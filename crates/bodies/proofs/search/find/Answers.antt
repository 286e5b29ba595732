-- `bodies::search::find` meets its contract. The loop keeps where the key can still be; what is left is halved. Assumes nothing.
use Prim.Native.Nat.{ℕ}
use native.Mathlib.Omega.{arith}
use mathlib.Core.Path.{◌≡◌, sym, subst, ◌∙◌}
use lib.ListN.{length}
use borrow.Author.Rules.{rules}
use Rattle.bodies.specs.Bodies.{records_in, key_number}
use Rattle.bodies.specs.Kinds.{number}
use Rattle.bodies.proofs.Keys.{number_at}
use Rattle.bodies.proofs.Files.{all-rise}
use Rattle.bodies.proofs.Halving.{Between, anywhere, upper-half, lower-half, nowhere-there, found-there, found_nowhere}
use Rattle.bodies.proofs.search.find.Goals as goal

pub loop-low-init : goal.loop-low-init
loop-low-init c =
    let t = c.args.whole.file.text.now in
    let k = number c.args.kind in
    subst (λ (n : ℕ). Between (number_at t k) (length (records_in t k)) c.args.key 0 n) (sym c.count-high.ensures.0)
    (anywhere (number_at t k) (length (records_in t k)) c.args.key)

pub returns-then-here-key-clause-found : goal.returns-then-here-key-clause-found
returns-then-here-key-clause-found c =
    let x = c.args in
    let p = c.probe-middle in
    found-there (key_number (number x.kind)) (records_in x.whole.file.text.now (number x.kind)) x.key (all-rise c.args.whole c.args.kind) p.result
    (omega (arith, p.ensures.1, c.loop-low.invariant.within))
    (sym c.key_number-here.ensures ∙ c.if-here-key.true)

pub loop-low-preserved-then-here-key-2 : goal.loop-low-preserved-then-here-key-2
loop-low-preserved-then-here-key-2 c =
    let t = c.args.whole.file.text.now in
    let k = number c.args.kind in
    let l = c.loop-low in
    let p = c.probe-middle in
    upper-half (number_at t k) (length (records_in t k)) c.args.key (all-rise c.args.whole c.args.kind) l.low l.high p.result l.invariant p.ensures.1
    (omega (arith, c.key_number-here.ensures, c.if-here-key-2.true))

pub loop-low-preserved : goal.loop-low-preserved
loop-low-preserved c =
    let t = c.args.whole.file.text.now in
    let k = number c.args.kind in
    let l = c.loop-low in
    let p = c.probe-middle in
    let other : c.key_number-here.result ≡ c.args.key → ⊥ = c.if-here-key.false in
    lower-half (number_at t k) (length (records_in t k)) c.args.key (all-rise c.args.whole c.args.kind) l.low l.high p.result l.invariant p.ensures.0 p.ensures.1
    (omega (arith, c.key_number-here.ensures, c.if-here-key-2.false, other))

pub returns-clause-found : goal.returns-clause-found
returns-clause-found c =
    let t = c.args.whole.file.text.now in
    let k = number c.args.kind in
    let l = c.loop-low in
    found_nowhere (key_number k) (records_in t k) c.args.key (all-rise c.args.whole c.args.kind)
    (nowhere-there (number_at t k) (length (records_in t k)) c.args.key (all-rise c.args.whole c.args.kind) l.low l.high l.invariant (search rules))
