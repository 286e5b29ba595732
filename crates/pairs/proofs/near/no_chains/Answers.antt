-- `pairs::near::no_chains` meets its contract: the last places are filled with 0. Assumes nothing.
use Prim.Native.Nat.{ℕ, ◌+◌, ◌-◌, ◌≤◌, ◌<◌}
use native.Mathlib.Omega.{arith}
use mathlib.Core.Path.{◌≡◌, ap, ◌∙◌}
use mathlib.Core.List.{List, ◌++◌}
use lib.ListN.{length, get_or, take, drop, length-take, length-drop}
use lib.Seq.{length-take-le}
use Rattle.std.proofs.lemmas.List.{get_or-append-add, get_or_append_left, get_or-replicate}
use Rattle.pairs.proofs.near.no_chains.Goals as goal

-- a place of the part in the middle
in-part : (xs ys zs : List ℕ) (n k : ℕ) → length xs ≡ n → n ≤ k → k - n < length ys → get_or (xs ++ (ys ++ zs)) k 0 ≡ get_or ys (k - n) 0
in-part xs ys zs n k e low on =
    let at : k ≡ length xs + (k - n) = omega (arith, e) in
    ap (λ (j : ℕ). get_or (xs ++ (ys ++ zs)) j 0) at ∙ get_or-append-add xs (ys ++ zs) (k - n) 0 ∙ get_or_append_left ys zs 0 (k - n) on

pub returns : goal.returns
returns c = λ k low high.
    let xs = c.args.links.now in
    let ys = c.fill.new.self in
    let is = c.fill.ensures.after (λ y e. e) in
    let many = length (take 128 (drop 2048 xs)) in
    let on : k - 2048 < many = omega (arith, length-take 128 (drop 2048 xs), length-drop 2048 xs, c.told-links) in
    in-part (take 2048 xs) ys _ 2048 k (length-take-le 2048 xs (omega (arith, c.told-links))) low (omega (arith, on, c.fill.ensures.len)) ∙ ap (λ (l : List ℕ). get_or l (k - 2048) 0) is ∙ get_or-replicate many (k - 2048) 0 0 on
