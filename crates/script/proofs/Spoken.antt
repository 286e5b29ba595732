-- What a caller has of a line that was read: the edit with its keys, of which there are at most 254. Assumes nothing.
use Prim.Native.Nat.{ℕ, ◌+◌, ◌-◌, ◌*◌, ◌≤◌, ◌<◌}
use native.Mathlib.Omega.{arith}
use native.Mathlib.Decide.{dec_le}
use mathlib.Core.Path.{◌≡◌, refl, ap, sym, ◌∙◌}
use mathlib.Core.Bool.{Bool, true, false, cond}
use mathlib.Core.List.{List, [], ◌∷◌, ◌++◌}
use lib.ListN.{length, get_or, take, drop, replicate}
use lib.Seq.{length-slice, take-append_seam}
use lib.Dec.{eqb}
use Rattle.rules.specs.declared.Position.{Position}
use Rattle.rules.specs.declared.Edit.{Edit}
use Rattle.rules.specs.declared.Edit.TheVariants.{VertexInsert, FaceRemove, FaceSplit, FacePoke, FaceBridge, FaceExtrude, ArcBridge, ArcExtrude}
use Rattle.rules.specs.Script.{Text, Reading, unread, reads, Numbers, no_numbers, numbers, Point, no_point, point, Line, unreadable, says, one_more, number_in, numbers_in, point_in, numbers_make, numbered, point_makes, pointed, keys_make, shift, line_of, line_from, line_in}
use Rattle.std.specs.Prelude.{Option, Some, None, IfSome}
use Rattle.script.specs.declared.Parsed.{Parsed}
use Rattle.script.specs.Fields.{end_of, field_at, fields_from, padded}
use Rattle.script.specs.Lines.{parsed_of}
use Rattle.script.proofs.Places.{end-within, fields-first, fields-none}
use Rattle.script.proofs.Left.{first_number, number-far}
use Rattle.script.proofs.Says.{line-short, line-long}

-- ---- the line, of what was read

pub says_is : (l : Line) (r : Parsed) → Some r ≡ parsed_of l → l ≡ says r.edit (take r.count r.keys)
unfolding parsed_of padded
says_is unreadable r h = let z : ◌≡◌ {A = ℕ} 0 1 = cc in let b : ⊥ = omega arith in absurd b
says_is (says d ks) r h =
    let e : ◌≡◌ {A = Parsed} r (record { edit = d; keys = ks ++ replicate (256 - length ks) 0; count = length ks }) = cc in
    rw (ap (λ (x : Parsed). x.edit) e, ap (λ (x : Parsed). x.count) e, ap (λ (x : Parsed). x.keys) e, take-append_seam ks (replicate (256 - length ks) 0))

pub says-not : (l : Line) → None ≡ parsed_of l → l ≡ unreadable
unfolding parsed_of
says-not unreadable h = refl
says-not (says d ks) h = let z : ◌≡◌ {A = ℕ} 0 1 = cc in let b : ⊥ = omega arith in absurd b

-- ---- how many keys a line has

keys_count : Line → ℕ
keys_count unreadable = 0
keys_count (says e ks) = length ks

one_of : (b : Bool) (x y : Line) (n : ℕ) → keys_count x ≤ n → keys_count y ≤ n → keys_count (cond b x y) ≤ n
one_of true x y n hx hy = hx
one_of false x y n hx hy = hy

numbered-none : (n : ℕ) (e : List ℕ → Edit) (fs : List Text) (m : ℕ) → keys_count (numbered n e fs) ≤ m
unfolding numbered
numbered-none n e fs m = go (numbers_in fs)
  where
    go : (ns : Numbers) → keys_count (numbers_make n e ns) ≤ m
    go no_numbers = unfold numbers_make in unfold keys_count in omega arith
    go (numbers ns) = unfold numbers_make in one_of (eqb (length ns) n) (says (e ns) []) unreadable m (unfold keys_count in omega arith) (unfold keys_count in omega arith)

pointed-none : (n : ℕ) (e : List ℕ → Position → Edit) (fs : List Text) (m : ℕ) → keys_count (pointed n e fs) ≤ m
unfolding pointed
pointed-none n e fs m = go (numbers_in (take n fs)) (point_in (drop n fs))
  where
    go : (ns : Numbers) (q : Point) → keys_count (point_makes e ns q) ≤ m
    go no_numbers q = unfold point_makes in unfold keys_count in omega arith
    go (numbers ns) no_point = unfold point_makes in unfold keys_count in omega arith
    go (numbers ns) (point p) = unfold point_makes in unfold keys_count in omega arith

one_more_lem : (r : Reading) (m : Numbers) (n : ℕ) (ns : List ℕ) → one_more r m ≡ numbers (n ∷ ns) → (r ≡ reads n) × (m ≡ numbers ns)
unfolding one_more
one_more_lem unread m n ns e = let z : ◌≡◌ {A = ℕ} 0 1 = cc in let b : ⊥ = omega arith in absurd b
one_more_lem (reads v) no_numbers n ns e = let z : ◌≡◌ {A = ℕ} 0 1 = cc in let b : ⊥ = omega arith in absurd b
one_more_lem (reads v) (numbers l) n ns e = (cc, cc)

-- each number takes two bytes or more, with the space or the end behind it
numbers-few : (text : Text) (at : ℕ) (ns : List ℕ) → numbers_in (fields_from text at) ≡ numbers ns → 2 * length ns ≤ length text + 1 - at
unfolding numbers_in
numbers-few text at [] e = omega arith
numbers-few text at (n ∷ ns) e = go (dec_le at (length text)) (λ k. numbers-few text k ns)
  where
    go : Dec (at ≤ length text) → ((k : ℕ) → numbers_in (fields_from text k) ≡ numbers ns → 2 * length ns ≤ length text + 1 - k) → 2 * length (n ∷ ns) ≤ length text + 1 - at
    go (yes h) ih =
        let f : fields_from text at ≡ field_at text at ∷ fields_from text (end_of text at + 1) = fields-first text at h in
        let o : one_more (number_in (field_at text at)) (numbers_in (fields_from text (end_of text at + 1))) ≡ numbers (n ∷ ns) = sym (ap numbers_in f) ∙ e in
        let p = one_more_lem (number_in (field_at text at)) (numbers_in (fields_from text (end_of text at + 1))) n ns o in
        let l : at < end_of text at = number-far text at n h (ap first_number f ∙ p.0) in
        let w : end_of text at ≤ length text = end-within text at h in
        let q : 2 * length ns ≤ length text + 1 - (end_of text at + 1) = ih (end_of text at + 1) p.1 in
        omega arith
    go (no m) ih =
        let f : fields_from text at ≡ [] = fields-none text at (omega arith) in
        let o : numbers [] ≡ numbers (n ∷ ns) = sym (ap numbers_in f) ∙ e in
        let z : ◌≡◌ {A = ℕ} 0 1 = cc in
        let b : ⊥ = omega arith in
        absurd b

insert-few : (text : Text) → length text ≤ 512 → keys_count (keys_make (numbers_in (fields_from text 2))) ≤ 254
insert-few text h = go (numbers_in (fields_from text 2)) refl
  where
    go : (ns : Numbers) → numbers_in (fields_from text 2) ≡ ns → keys_count (keys_make ns) ≤ 254
    go no_numbers e = unfold keys_make in unfold keys_count in omega arith
    go (numbers []) e = unfold keys_make in unfold keys_count in omega arith
    go (numbers (n ∷ ns)) e = unfold keys_make in unfold keys_count in omega (arith, numbers-few text 2 (n ∷ ns) e)

none-few : keys_count unreadable ≤ 254
unfolding keys_count
none-few = omega arith

letter-few : (text : Text) (letter : ℕ) → length text ≤ 512 → keys_count (line_of letter (fields_from text 2)) ≤ 254
unfolding line_of
letter-few text letter h =
    let fs = fields_from text 2 in
    let l8 : Line = cond (eqb letter 97) (pointed 2 (λ ns p. ArcExtrude (get_or ns 0 0) (get_or ns 1 0) (shift p)) fs) unreadable in
    let h8 : keys_count l8 ≤ 254 = one_of (eqb letter 97) (pointed 2 (λ ns p. ArcExtrude (get_or ns 0 0) (get_or ns 1 0) (shift p)) fs) unreadable 254 (pointed-none 2 (λ ns p. ArcExtrude (get_or ns 0 0) (get_or ns 1 0) (shift p)) fs 254) none-few in
    let l7 : Line = cond (eqb letter 120) (pointed 1 (λ ns p. FaceExtrude (get_or ns 0 0) (shift p)) fs) l8 in
    let h7 : keys_count l7 ≤ 254 = one_of (eqb letter 120) (pointed 1 (λ ns p. FaceExtrude (get_or ns 0 0) (shift p)) fs) l8 254 (pointed-none 1 (λ ns p. FaceExtrude (get_or ns 0 0) (shift p)) fs 254) h8 in
    let l6 : Line = cond (eqb letter 106) (numbered 4 (λ ns. ArcBridge (get_or ns 0 0) (get_or ns 1 0) (get_or ns 2 0) (get_or ns 3 0)) fs) l7 in
    let h6 : keys_count l6 ≤ 254 = one_of (eqb letter 106) (numbered 4 (λ ns. ArcBridge (get_or ns 0 0) (get_or ns 1 0) (get_or ns 2 0) (get_or ns 3 0)) fs) l7 254 (numbered-none 4 (λ ns. ArcBridge (get_or ns 0 0) (get_or ns 1 0) (get_or ns 2 0) (get_or ns 3 0)) fs 254) h7 in
    let l5 : Line = cond (eqb letter 98) (numbered 2 (λ ns. FaceBridge (get_or ns 0 0) (get_or ns 1 0)) fs) l6 in
    let h5 : keys_count l5 ≤ 254 = one_of (eqb letter 98) (numbered 2 (λ ns. FaceBridge (get_or ns 0 0) (get_or ns 1 0)) fs) l6 254 (numbered-none 2 (λ ns. FaceBridge (get_or ns 0 0) (get_or ns 1 0)) fs 254) h6 in
    let l4 : Line = cond (eqb letter 112) (pointed 1 (λ ns p. FacePoke (get_or ns 0 0) p) fs) l5 in
    let h4 : keys_count l4 ≤ 254 = one_of (eqb letter 112) (pointed 1 (λ ns p. FacePoke (get_or ns 0 0) p) fs) l5 254 (pointed-none 1 (λ ns p. FacePoke (get_or ns 0 0) p) fs 254) h5 in
    let l3 : Line = cond (eqb letter 115) (numbered 3 (λ ns. FaceSplit (get_or ns 0 0) (get_or ns 1 0) (get_or ns 2 0)) fs) l4 in
    let h3 : keys_count l3 ≤ 254 = one_of (eqb letter 115) (numbered 3 (λ ns. FaceSplit (get_or ns 0 0) (get_or ns 1 0) (get_or ns 2 0)) fs) l4 254 (numbered-none 3 (λ ns. FaceSplit (get_or ns 0 0) (get_or ns 1 0) (get_or ns 2 0)) fs 254) h4 in
    let l2 : Line = cond (eqb letter 114) (numbered 1 (λ ns. FaceRemove (get_or ns 0 0)) fs) l3 in
    let h2 : keys_count l2 ≤ 254 = one_of (eqb letter 114) (numbered 1 (λ ns. FaceRemove (get_or ns 0 0)) fs) l3 254 (numbered-none 1 (λ ns. FaceRemove (get_or ns 0 0)) fs 254) h3 in
    let l1 : Line = cond (eqb letter 102) (keys_make (numbers_in fs)) l2 in
    let h1 : keys_count l1 ≤ 254 = one_of (eqb letter 102) (keys_make (numbers_in fs)) l2 254 (insert-few text h) h2 in
    let l0 : Line = cond (eqb letter 118) (pointed 0 (λ ns p. VertexInsert p) fs) l1 in
    let h0 : keys_count l0 ≤ 254 = one_of (eqb letter 118) (pointed 0 (λ ns p. VertexInsert p) fs) l1 254 (pointed-none 0 (λ ns p. VertexInsert p) fs 254) h1 in
    h0

first-length : (text : Text) → length (field_at text 0) ≡ end_of text 0
unfolding field_at
first-length text = length-slice 0 (end_of text 0) text (end-within text 0 (omega arith)) ∙ (omega arith)

first-few : (text f : Text) → length text ≤ 512 → field_at text 0 ≡ f → keys_count (line_from (f ∷ fields_from text (end_of text 0 + 1))) ≤ 254
unfolding line_from keys_count
first-few text [] h e = omega arith
first-few text (c ∷ []) h e =
    let l : end_of text 0 + 1 ≡ 2 = ap (λ (n : ℕ). n + 1) (sym (first-length text) ∙ ap length e) in
    rw l (letter-few text c h)
first-few text (c ∷ d ∷ f) h e = omega arith

line-few : (text : Text) → keys_count (line_in text) ≤ 254
unfolding keys_count
line-few text = go (dec_le (length text) 512)
  where
    go : Dec (length text ≤ 512) → keys_count (line_in text) ≤ 254
    go (yes h) = rw (line-short text h) (first-few text (field_at text 0) h refl)
    go (no n) = rw (line-long text (omega arith)) (omega arith)

few-in : (l : Line) → keys_count l ≤ 254 → IfSome (parsed_of l) (λ r. r.count ≤ 254)
unfolding parsed_of keys_count
few-in unreadable h = tt
few-in (says e ks) h = h

pub few : (text : Text) (r : Option Parsed) → r ≡ parsed_of (line_in text) → IfSome r (λ p. p.count ≤ 254)
few text r h = rw h (few-in (line_in text) (line-few text))
