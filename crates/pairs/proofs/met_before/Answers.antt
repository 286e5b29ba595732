-- `pairs::met_before` meets its contract. The loop keeps that no pair passed by joins the two; laws of Below and Steps. Assumes nothing.
use Prim.Native.Nat.{ℕ, ◌+◌, ◌≤◌, ◌<◌}
use native.Mathlib.Omega.{arith}
use mathlib.Core.Path.{◌≡◌, refl, sym, ◌∙◌}
use mathlib.Core.List.{List}
use lib.ListN.{length, get_or, length-take}
use Rattle.rules.specs.declared.Links.{Links}
use Rattle.rules.specs.Table.{some_below, after}
use Rattle.rules.specs.Mesh.{list_of}
use Rattle.lists.proofs.Laws.{place_in, next-on}
use Rattle.pairs.specs.Pairs.{same_two, meets, met_before}
use Rattle.pairs.proofs.Below.{some_more, some-here}
use Rattle.pairs.proofs.Steps.{pair-two}
use borrow.Author.Rules.{rules}
use Rattle.pairs.proofs.met_before.Goals as goal

-- the first n places of a list, as a list of links
abbrev first : List ℕ → ℕ → Links
first at n = record { at = at; len = n }

all_there : (at : List ℕ) (n : ℕ) → length at ≡ 64 → n ≤ 64 → n ≡ length (list_of (first at n))
unfolding list_of
all_there at n e l = omega (arith, length-take n at)

pub loop-j-init : goal.loop-j-init
unfolding some_below
loop-j-init c = λ p h. refl

-- each pair before i, by the array
by-array :
    (at : List ℕ) (n i j k : ℕ) → length at ≡ 64 → n ≤ 64 → i < n → j ≡ after n i →
    let per = list_of (first at n) in
    k < i →
    meets per (get_or per i 0) (get_or per (after (length per) i) 0) k
    ≡ same_two (get_or at k 0) (get_or at (k + 1) 0) (get_or at i 0) (get_or at j 0)
by-array at n i j k known few within after-it q =
    let per = first at n in
    let all = all_there at n known few in
    let from = place_in per n i all within in
    let to = place_in per n j all (next-on n i j within after-it) in
    pair-two per i k n j (get_or at i 0) (get_or at j 0) (omega (arith, all, within)) q all after-it from to

pub returns-then-same_two : goal.returns-then-same_two
unfolding met_before list_of
returns-then-same_two c =
    let a = c.args in
    let per = list_of (first a.at.now a.n) in
    let meet = meets per (get_or per a.i 0) (get_or per (after (length per) a.i) 0) in
    sym (some-here meet a.i c.loop-j.j (search rules) (by-array a.at.now a.n a.i c.place_after.result c.loop-j.j c.told-at c.requires.0 c.requires.1 c.place_after.ensures (search rules) ∙ sym c.same_two.ensures ∙ c.if-same_two.true))

pub loop-j-preserved : goal.loop-j-preserved
loop-j-preserved c =
    λ p h. some_more p c.loop-j.j (c.loop-j.invariant p h) (h c.loop-j.j (search rules) ∙ sym c.same_two.ensures ∙ c.if-same_two.false)

pub returns : goal.returns
unfolding met_before list_of
returns c =
    let a = c.args in
    let per = list_of (first a.at.now a.n) in
    let all : c.loop-j.j ≡ a.i = omega (arith, c.loop-j.auto.j-end, c.loop-j-test.false) in
    sym (rw all at (c.loop-j.invariant (meets per (get_or per a.i 0) (get_or per (after (length per) a.i) 0)) (λ k. by-array a.at.now a.n a.i c.place_after.result k c.told-at c.requires.0 c.requires.1 c.place_after.ensures)))
