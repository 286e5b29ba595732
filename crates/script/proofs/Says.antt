-- The laws of a whole line: what stands after each letter, and the letter. Assumes nothing.
use Prim.Native.Nat.{ℕ, zero, suc, ◌+◌, ◌-◌, ◌≤◌, ◌<◌}
use native.Mathlib.Omega.{arith}
use native.Mathlib.Decide.{dec_le}
use mathlib.Core.Path.{◌≡◌, refl, ap, sym, ◌∙◌}
use mathlib.Core.Bool.{Bool, true, false, cond}
use mathlib.Core.List.{List, [], ◌∷◌, ◌++◌, append_assoc}
use lib.ListN.{length, get_or, set, take, drop, replicate, length-drop, length-append}
use lib.Seq.{take_all, get_or-drop}
use lib.Dec.{eqb}
use borrow.Author.Tests.{le-leb, lt-leb, eq-eqb, ne_eqb}
use Rattle.std.specs.Prelude.{Option, Some, None}
use Rattle.std.specs.Option.{option_map, option_and_then}
use Rattle.rules.specs.declared.Position.{Position}
use Rattle.rules.specs.declared.Edit.{Edit}
use Rattle.rules.specs.declared.Edit.TheVariants.{VertexInsert, FaceInsert, FaceRemove, FaceSplit, FacePoke, FaceBridge, FaceExtrude, ArcBridge, ArcExtrude}
use Rattle.rules.specs.Script.{number_in as number_of}
use Rattle.rules.specs.Script.{Text, Reading, unread, reads, one_more, shift, Numbers, no_numbers, numbers, Point, no_point, point, unreadable, says, space, with_head, parts_at, numbers_in, point_in, numbers_make, numbered, point_makes, pointed, keys_make, line_of, line_from, line_in}
use Rattle.script.specs.declared.Numbers.{Numbers as ReadNumbers}
use Rattle.script.specs.declared.Contents.{Contents}
use Rattle.script.specs.declared.Parsed.{Parsed}
use Rattle.script.proofs.Left.{place-others}
use Rattle.script.specs.Fields.{end_of, field_at, fields_from, next_place, place_after, letter_of, letter_at, spot_of, padded, numbers_of}
use Rattle.script.specs.Lines.{most_numbers, contents_of, Holds, parsed_of, exactly_of, aim_of, Tells}
use Rattle.script.proofs.Places.{fields-here, fields-first, fields-none}

-- ---- a point

spot-value : (q : Point) (p : Position) → Some p ≡ spot_of q → q ≡ point p
unfolding spot_of
spot-value no_point p e = let z : ◌≡◌ {A = ℕ} 0 1 = cc in let b : ⊥ = omega arith in absurd b
spot-value (point o) p e = cc

spot-nowhere : (q : Point) → None ≡ spot_of q → q ≡ no_point
unfolding spot_of
spot-nowhere no_point e = refl
spot-nowhere (point o) e = let z : ◌≡◌ {A = ℕ} 0 1 = cc in let b : ⊥ = omega arith in absurd b

-- ---- numbers that were read, or not

zeros-at : (m i : ℕ) → ◌≡◌ {A = ℕ} (get_or (replicate m 0) i 0) 0
zeros-at zero i = refl
zeros-at (suc m) zero = refl
zeros-at (suc m) (suc i) = zeros-at m i

behind-zeros : (l : List ℕ) (m i : ℕ) → get_or (l ++ replicate m 0) i 0 ≡ get_or l i 0
behind-zeros [] m i = zeros-at m i
behind-zeros (x ∷ l) m zero = refl
behind-zeros (x ∷ l) m (suc i) = behind-zeros l m i

record ReadAs (k : ReadNumbers) (ns : Numbers) : Type 0 where
  list : List ℕ
  is : ns ≡ numbers list
  values : k.values ≡ padded list
  count : k.count ≡ length list

was_read : (k : ReadNumbers) (ns : Numbers) → numbers_of ns ≡ Some k → ReadAs k ns
unfolding numbers_of
was_read k no_numbers h = let z : ◌≡◌ {A = ℕ} 0 1 = cc in let b : ⊥ = omega arith in absurd b
was_read k (numbers l) h =
    let e : ◌≡◌ {A = ReadNumbers} (record { values = padded l; count = length l }) k = cc in
    record { list = l; is = refl; values = sym (ap (λ (x : ReadNumbers). x.values) e); count = sym (ap (λ (x : ReadNumbers). x.count) e) }

was-unread : (ns : Numbers) → numbers_of ns ≡ None → ns ≡ no_numbers
unfolding numbers_of
was-unread no_numbers h = refl
was-unread (numbers l) h = let z : ◌≡◌ {A = ℕ} 0 1 = cc in let b : ⊥ = omega arith in absurd b

number_in : (k : ReadNumbers) (ns : Numbers) (w : ReadAs k ns) (i : ℕ) → get_or k.values i 0 ≡ get_or w.list i 0
unfolding padded
number_in k ns w i = ap (λ (l : List ℕ). get_or l i 0) w.values ∙ behind-zeros w.list (256 - length w.list) i

-- ---- numbers and a point

pub aim-nowhere : (ns : Numbers) (q : Point) → None ≡ spot_of q → None ≡ aim_of ns q
unfolding aim_of
aim-nowhere no_numbers q s = refl
aim-nowhere (numbers l) q s = rw (spot-nowhere q s)

pub aim_at : (k : ReadNumbers) (q : Point) (ns : Numbers) → numbers_of ns ≡ Some k → (p : Position) → Some p ≡ spot_of q
    → Some (get_or k.values 0 0, get_or k.values 1 0, p) ≡ aim_of ns q
unfolding aim_of
aim_at k q ns h p s =
    let w = was_read k ns h in
    let e : Some (get_or k.values 0 0, get_or k.values 1 0, p) ≡ aim_of (numbers w.list) q = rw (number_in k ns w 0, number_in k ns w 1, spot-value q p s) in
    e ∙ sym (ap (λ (m : Numbers). aim_of m q) w.is)

module _ (n : ℕ) (e : ℕ → ℕ → Position → Edit) where
  aim-makes : (ns : Numbers) (q : Point) (a b : ℕ) (p : Position) → Some (a, b, p) ≡ aim_of ns q → point_makes (λ l o. e (get_or l 0 0) (get_or l 1 0) o) ns q ≡ says (e a b p) []
  unfolding aim_of point_makes
  aim-makes no_numbers q a b p h = let z : ◌≡◌ {A = ℕ} 0 1 = cc in let x : ⊥ = omega arith in absurd x
  aim-makes (numbers l) no_point a b p h = let z : ◌≡◌ {A = ℕ} 0 1 = cc in let x : ⊥ = omega arith in absurd x
  aim-makes (numbers l) (point o) a b p h =
      let t : ◌≡◌ {A = ℕ × ℕ × Position} (a, b, p) (get_or l 0 0, get_or l 1 0, o) = cc in
      let ea : a ≡ get_or l 0 0 = ap (λ (x : ℕ × ℕ × Position). x.0) t in
      let eb : b ≡ get_or l 1 0 = ap (λ (x : ℕ × ℕ × Position). x.1) t in
      let ep : p ≡ o = ap (λ (x : ℕ × ℕ × Position). x.2) t in
      rw (ea, eb, ep)

  pub aim-says : (fs : List Text) (a b : ℕ) (p : Position) → Some (a, b, p) ≡ aim_of (numbers_in (take n fs)) (point_in (drop n fs))
      → pointed n (λ l o. e (get_or l 0 0) (get_or l 1 0) o) fs ≡ says (e a b p) []
  unfolding pointed
  aim-says fs a b p h = aim-makes (numbers_in (take n fs)) (point_in (drop n fs)) a b p h

aimless-makes : (e : List ℕ → Position → Edit) (ns : Numbers) (q : Point) → None ≡ aim_of ns q → point_makes e ns q ≡ unreadable
unfolding aim_of point_makes
aimless-makes e no_numbers q h = refl
aimless-makes e (numbers l) no_point h = refl
aimless-makes e (numbers l) (point o) h = let z : ◌≡◌ {A = ℕ} 0 1 = cc in let b : ⊥ = omega arith in absurd b

pub aim-not : (n : ℕ) (e : List ℕ → Position → Edit) (fs : List Text) → None ≡ aim_of (numbers_in (take n fs)) (point_in (drop n fs)) → pointed n e fs ≡ unreadable
unfolding pointed
aim-not n e fs h = aimless-makes e (numbers_in (take n fs)) (point_in (drop n fs)) h

-- ---- exactly n numbers

module _ (n : ℕ) (e : ℕ → ℕ → ℕ → ℕ → Edit) where
  four-makes : (ns : Numbers) (k : List ℕ) → Some k ≡ exactly_of n ns
      → numbers_make n (λ l. e (get_or l 0 0) (get_or l 1 0) (get_or l 2 0) (get_or l 3 0)) ns ≡ says (e (get_or k 0 0) (get_or k 1 0) (get_or k 2 0) (get_or k 3 0)) []
  unfolding exactly_of numbers_make
  four-makes no_numbers k h = let z : ◌≡◌ {A = ℕ} 0 1 = cc in let x : ⊥ = omega arith in absurd x
  four-makes (numbers l) k h = go (eqb (length l) n) h
    where
      go : (t : Bool) → Some k ≡ cond t (Some (get_or l 0 0 ∷ get_or l 1 0 ∷ get_or l 2 0 ∷ get_or l 3 0 ∷ [])) None
          → cond t (says (e (get_or l 0 0) (get_or l 1 0) (get_or l 2 0) (get_or l 3 0)) []) unreadable ≡ says (e (get_or k 0 0) (get_or k 1 0) (get_or k 2 0) (get_or k 3 0)) []
      go true h = let ek : k ≡ get_or l 0 0 ∷ get_or l 1 0 ∷ get_or l 2 0 ∷ get_or l 3 0 ∷ [] = cc in rw ek
      go false h = let z : ◌≡◌ {A = ℕ} 0 1 = cc in let x : ⊥ = omega arith in absurd x

  pub four-says : (fs : List Text) (k : List ℕ) → Some k ≡ exactly_of n (numbers_in fs)
      → numbered n (λ l. e (get_or l 0 0) (get_or l 1 0) (get_or l 2 0) (get_or l 3 0)) fs ≡ says (e (get_or k 0 0) (get_or k 1 0) (get_or k 2 0) (get_or k 3 0)) []
  unfolding numbered
  four-says fs k h = four-makes (numbers_in fs) k h

four-makes-not : (n : ℕ) (e : List ℕ → Edit) (ns : Numbers) → None ≡ exactly_of n ns → numbers_make n e ns ≡ unreadable
unfolding exactly_of numbers_make
four-makes-not n e no_numbers h = refl
four-makes-not n e (numbers l) h = go (eqb (length l) n) h
  where
    go : (t : Bool) → None ≡ cond t (Some (get_or l 0 0 ∷ get_or l 1 0 ∷ get_or l 2 0 ∷ get_or l 3 0 ∷ [])) None → cond t (says (e l) []) unreadable ≡ unreadable
    go true h = let z : ◌≡◌ {A = ℕ} 0 1 = cc in let x : ⊥ = omega arith in absurd x
    go false h = refl

pub four-not : (n : ℕ) (e : List ℕ → Edit) (fs : List Text) → None ≡ exactly_of n (numbers_in fs) → numbered n e fs ≡ unreadable
unfolding numbered
four-not n e fs h = four-makes-not n e (numbers_in fs) h

-- of the numbers that were read
module _ (n : ℕ) (k : ReadNumbers) (ns : Numbers) (h : numbers_of ns ≡ Some k) where
  pub exactly-other : (k.count ≡ n → ⊥) → None ≡ exactly_of n ns
  unfolding exactly_of
  exactly-other c = let w = was_read k ns h in rw (w.is, ne_eqb (length w.list) n (λ q. c (w.count ∙ q)))

  pub exactly-four : k.count ≡ n → Some (get_or k.values 0 0 ∷ get_or k.values 1 0 ∷ get_or k.values 2 0 ∷ get_or k.values 3 0 ∷ []) ≡ exactly_of n ns
  unfolding exactly_of
  exactly-four c =
      let w = was_read k ns h in
      let e : Some (get_or k.values 0 0 ∷ get_or k.values 1 0 ∷ get_or k.values 2 0 ∷ get_or k.values 3 0 ∷ []) ≡ exactly_of n (numbers w.list) =
      rw (number_in k ns w 0, number_in k ns w 1, number_in k ns w 2, number_in k ns w 3, eq-eqb (length w.list) n (sym w.count ∙ c)) in
      e ∙ sym (ap (exactly_of n) w.is)

-- ---- f mark keys

-- the numbers after the first, and a zero behind them
pub after-all : (values k : List ℕ) (n : ℕ) (ns : List ℕ) → length values ≡ 256 → k ≡ take 255 (drop 1 values) → values ≡ padded (n ∷ ns) → k ++ (0 ∷ []) ≡ padded ns
unfolding padded
after-all values k n ns full t e =
    let few : length ns ≤ 255 = omega (arith, full, ap length e, length-append ns (replicate (256 - suc (length ns)) 0)) in
    let m : 256 - length ns ≡ suc (256 - suc (length ns)) = omega arith in
    let d : k ≡ ns ++ replicate (256 - suc (length ns)) 0 = t ∙ take_all 255 (drop 1 values) (omega (arith, full, length-drop 1 values)) ∙ ap (drop 1) e in
    ap (λ (x : List ℕ). x ++ (0 ∷ [])) d ∙ append_assoc ns (replicate (256 - suc (length ns)) 0) (0 ∷ [])
    ∙ rw m (ap (λ (x : List ℕ). ns ++ x) (one_more (256 - suc (length ns))))
  where
    one_more : (m : ℕ) → ◌≡◌ {A = List ℕ} (replicate m 0 ++ (0 ∷ [])) (replicate (suc m) 0)
    one_more zero = refl
    one_more (suc m) = ap (λ (x : List ℕ). 0 ∷ x) (one_more m)

insert-empty : (l : List ℕ) → length l ≡ 0 → keys_make (numbers l) ≡ unreadable
unfolding keys_make
insert-empty [] e = refl
insert-empty (m ∷ l) e = let b : ⊥ = omega arith in absurd b

insert-list : (mark count : ℕ) (keys l : List ℕ) → mark ≡ get_or l 0 0 → count ≡ length l → (count ≡ 0 → ⊥) → ((m : ℕ) (ms : List ℕ) → l ≡ m ∷ ms → keys ≡ padded ms)
    → ◌≡◌ {A = Option Parsed} (Some (record { edit = FaceInsert mark; keys = keys; count = count - 1 })) (parsed_of (keys_make (numbers l)))
unfolding parsed_of keys_make
insert-list mark count keys [] f n c e = absurd (c n)
insert-list mark count keys (m ∷ ms) f n c e = let d : count - 1 ≡ length ms = omega arith in rw (d, e m ms refl, f)

module _ (k : ReadNumbers) (ns : Numbers) (h : numbers_of ns ≡ Some k) where
  pub insert-none : k.count ≡ 0 → keys_make ns ≡ unreadable
  insert-none c = let w = was_read k ns h in ap keys_make w.is ∙ insert-empty w.list (sym w.count ∙ c)

  pub insert-says : (keys : List ℕ) → (k.count ≡ 0 → ⊥) → ((m : ℕ) (ms : List ℕ) → k.values ≡ padded (m ∷ ms) → keys ≡ padded ms)
      → ◌≡◌ {A = Option Parsed} (Some (record { edit = FaceInsert (get_or k.values 0 0); keys = keys; count = k.count - 1 })) (parsed_of (keys_make ns))
  insert-says keys c e =
      let w = was_read k ns h in
      insert-list (get_or k.values 0 0) k.count keys w.list (number_in k ns w 0) w.count c (λ m ms q. e m ms (w.values ∙ ap padded q))
      ∙ sym (ap (λ (x : Numbers). parsed_of (keys_make x)) w.is)

-- ---- the line

pub line-long : (text : Text) → 512 < length text → line_in text ≡ unreadable
unfolding line_in
line-long text h = rw (lt-leb (length text) 512 h)

all-fields : (text : Text) → parts_at space text ≡ fields_from text 0
unfolding fields_from
all-fields text = rw (le-leb 0 (length text) (omega arith))

pub line-short : (text : Text) → length text ≤ 512 → line_in text ≡ line_from (field_at text 0 ∷ fields_from text (end_of text 0 + 1))
unfolding line_in
line-short text h = rw (le-leb (length text) 512 h) (ap line_from (all-fields text ∙ fields-first text 0 (omega arith)))

-- a line of at most 512 bytes, by the letter that was read
module _ (text : Text) (h : length text ≤ 512) where
  line-letter : (letter : ℕ) → letter_at text 0 ≡ Some letter → line_in text ≡ line_of letter (fields_from text (next_place text 0))
  unfolding letter_at next_place
  line-letter letter e = line-short text h ∙ rw (le-leb 0 (length text) (omega arith)) (go (field_at text 0) (fields_from text (end_of text 0 + 1)) (rw (le-leb 0 (length text) (omega arith)) at e))
    where
      go : (f : Text) (fs : List Text) → letter_of f ≡ Some letter → line_from (f ∷ fs) ≡ line_of letter fs
      go [] fs q = unfold letter_of in (let z : ◌≡◌ {A = ℕ} 0 1 = cc in let b : ⊥ = omega arith in absurd b)
      go (c ∷ []) fs q = unfold letter_of line_from in (let d : c ≡ letter = cc in rw d)
      go (c ∷ d ∷ f) fs q = unfold letter_of in (let z : ◌≡◌ {A = ℕ} 0 1 = cc in let b : ⊥ = omega arith in absurd b)

  line-unlettered : letter_at text 0 ≡ None → line_in text ≡ unreadable
  unfolding letter_at
  line-unlettered e = line-short text h ∙ go (field_at text 0) (fields_from text (end_of text 0 + 1)) (rw (le-leb 0 (length text) (omega arith)) at e)
    where
      go : (f : Text) (fs : List Text) → letter_of f ≡ None → line_from (f ∷ fs) ≡ unreadable
      go [] fs q = unfold line_from in refl
      go (c ∷ []) fs q = unfold letter_of in (let z : ◌≡◌ {A = ℕ} 0 1 = cc in let b : ⊥ = omega arith in absurd b)
      go (c ∷ d ∷ f) fs q = unfold line_from in refl

-- ---- what was read of it

parts-few : (cs : Text) → length (parts_at space cs) ≤ suc (length cs)
unfolding parts_at
parts-few [] = omega arith
parts-few (c ∷ cs) = go (eqb c space) (parts_at space cs) (parts-few cs)
  where
    go : (b : Bool) (l : List Text) → length l ≤ suc (length cs) → length (cond b ([] ∷ l) (with_head c l)) ≤ suc (suc (length cs))
    go true l h = omega arith
    go false [] h = unfold with_head in omega arith
    go false (f ∷ l) h = unfold with_head in omega arith

fields-few : (text : Text) (at : ℕ) → 1 ≤ at → length (fields_from text at) ≤ length text
fields-few text at h = go (dec_le at (length text))
  where
    go : Dec (at ≤ length text) → length (fields_from text at) ≤ length text
    go (yes l) = rw (fields-here text at l) (omega (arith, parts-few (drop at text), length-drop at text))
    go (no n) = rw (fields-none text at (omega arith)) (omega arith)

letter-far : (text : Text) → 1 ≤ next_place text 0
unfolding next_place
letter-far text = rw (le-leb 0 (length text) (omega arith)) (omega arith)

pub holds-all : (c : Contents) (fs : List Text) → Holds c 512 fs → numbers_of (numbers_in fs) ≡ Some c.numbers
holds-all c fs h = ap (λ (l : List Text). numbers_of (numbers_in l)) (sym (take_all 512 fs h.few)) ∙ h.numbers

pub tells-by : (c : Contents) (r : Option Parsed) (a b : ℕ) → a ≡ b → Tells b c r → Tells a c r
tells-by c r a b e t = rw e t

-- where a field is no number, no line can be read of which it is one
unread-all : (n : ℕ) (fs : List Text) → numbers_in (take n fs) ≡ no_numbers → numbers_in fs ≡ no_numbers
unfolding numbers_in
unread-all zero fs e = let z : ◌≡◌ {A = ℕ} 0 1 = cc in let b : ⊥ = omega arith in absurd b
unread-all (suc n) [] e = e
unread-all (suc n) (f ∷ fs) e = go (number_of f) (numbers_in (take n fs)) (unread-all n fs) refl e
  where
    go : (r : Reading) (m : Numbers) → (numbers_in (take n fs) ≡ no_numbers → numbers_in fs ≡ no_numbers) → numbers_in (take n fs) ≡ m → one_more r m ≡ no_numbers
        → one_more r (numbers_in fs) ≡ no_numbers
    go unread m i q e = unfold one_more in refl
    go (reads v) no_numbers i q e = rw (i q) (unfold one_more in refl)
    go (reads v) (numbers l) i q e = unfold one_more in (let z : ◌≡◌ {A = ℕ} 0 1 = cc in let b : ⊥ = omega arith in absurd b)

module _ (fs : List Text) where
  unread-numbered : (n : ℕ) (e : List ℕ → Edit) → numbers_in fs ≡ no_numbers → numbered n e fs ≡ unreadable
  unfolding numbered numbers_make
  unread-numbered n e h = rw h

  unread-pointed : (n : ℕ) (e : List ℕ → Position → Edit) → numbers_in (take n fs) ≡ no_numbers → pointed n e fs ≡ unreadable
  unfolding pointed point_makes
  unread-pointed n e h = rw h

  unread-insert : numbers_in fs ≡ no_numbers → keys_make (numbers_in fs) ≡ unreadable
  unfolding keys_make
  unread-insert h = rw h

  unread-line : (letter : ℕ) → numbers_in (take (most_numbers letter) fs) ≡ no_numbers → line_of letter fs ≡ unreadable
  unfolding most_numbers line_of
  unread-line letter e =
      go (eqb letter 118) (eqb letter 102) (eqb letter 114) (eqb letter 115) (eqb letter 112) (eqb letter 98) (eqb letter 106) (eqb letter 120) (eqb letter 97)
      (unread-all (most_numbers letter) fs e) e
    where
      go : (v f r s p b j x a : Bool) → numbers_in fs ≡ no_numbers → numbers_in (take (cond v 0 (cond p 1 (cond x 1 (cond a 2 512)))) fs) ≡ no_numbers
          → cond v (pointed 0 (λ ns p. VertexInsert p) fs)
          (cond f (keys_make (numbers_in fs))
          (cond r (numbered 1 (λ ns. FaceRemove (get_or ns 0 0)) fs)
          (cond s (numbered 3 (λ ns. FaceSplit (get_or ns 0 0) (get_or ns 1 0) (get_or ns 2 0)) fs)
          (cond p (pointed 1 (λ ns p. FacePoke (get_or ns 0 0) p) fs)
          (cond b (numbered 2 (λ ns. FaceBridge (get_or ns 0 0) (get_or ns 1 0)) fs)
          (cond j (numbered 4 (λ ns. ArcBridge (get_or ns 0 0) (get_or ns 1 0) (get_or ns 2 0) (get_or ns 3 0)) fs)
          (cond x (pointed 1 (λ ns p. FaceExtrude (get_or ns 0 0) (shift p)) fs)
          (cond a (pointed 2 (λ ns p. ArcExtrude (get_or ns 0 0) (get_or ns 1 0) (shift p)) fs) unreadable))))))))
          ≡ unreadable
      go true f r s p b j x a h e = unread-pointed 0 (λ ns p. VertexInsert p) e
      go false true r s p b j x a h e = unread-insert h
      go false false true s p b j x a h e = unread-numbered 1 (λ ns. FaceRemove (get_or ns 0 0)) h
      go false false false true p b j x a h e = unread-numbered 3 (λ ns. FaceSplit (get_or ns 0 0) (get_or ns 1 0) (get_or ns 2 0)) h
      go false false false false true b j x a h e = unread-pointed 1 (λ ns p. FacePoke (get_or ns 0 0) p) e
      go false false false false false true j x a h e = unread-numbered 2 (λ ns. FaceBridge (get_or ns 0 0) (get_or ns 1 0)) h
      go false false false false false false true x a h e = unread-numbered 4 (λ ns. ArcBridge (get_or ns 0 0) (get_or ns 1 0) (get_or ns 2 0) (get_or ns 3 0)) h
      go false false false false false false false true a h e = unread-pointed 1 (λ ns p. FaceExtrude (get_or ns 0 0) (shift p)) e
      go false false false false false false false false true h e = unread-pointed 2 (λ ns p. ArcExtrude (get_or ns 0 0) (get_or ns 1 0) (shift p)) e
      go false false false false false false false false false h e = refl

-- what is read one thing after the other is what stands on the line
module _ (text : Text) (letter n : ℕ) (t : Text) (at : ℕ) (l : Some letter ≡ letter_at text 0) (m : n ≡ most_numbers letter) (u : t ≡ text) (p : at ≡ next_place text 0) where
  pub contents-none : None ≡ numbers_of (numbers_in (take n (fields_from t at))) → None ≡ contents_of text
  unfolding contents_of
  contents-none e =
      rw (← l)
      (ap (λ o. option_map (λ ns. record { letter = letter; numbers = ns; spot = spot_of (point_in (drop (most_numbers letter) (fields_from text (next_place text 0)))) }) o)
      (rw (m, u, p) at e))

  pub contents-some : (k : ReadNumbers) → Some k ≡ numbers_of (numbers_in (take n (fields_from t at))) → (v : Text) (next : ℕ) → next ≡ place_after n t at → v ≡ t
      → (q : Option Position) → q ≡ spot_of (point_in (fields_from v next)) → ◌≡◌ {A = Option Contents} (Some (record { letter = letter; numbers = k; spot = q })) (contents_of text)
  unfolding contents_of
  contents-some k e v next f w q s =
      let here : fields_from v next ≡ drop n (fields_from t at) = rw (w, f) (place-others n t at) in
      let there : drop n (fields_from t at) ≡ drop (most_numbers letter) (fields_from text (next_place text 0)) = rw (m, u, p) in
      let d : q ≡ spot_of (point_in (drop (most_numbers letter) (fields_from text (next_place text 0)))) =
      s ∙ ap (λ (x : List Text). spot_of (point_in x)) (here ∙ there) in
      let g : Some k ≡ numbers_of (numbers_in (take (most_numbers letter) (fields_from text (next_place text 0)))) = rw (m, u, p) at e in
      rw (← l, ← g, d)

-- what stands on a line tells what it says
module _ (text : Text) (h : length text ≤ 512) where
  fs : List Text
  fs = fields_from text (next_place text 0)

  pub line-tells : (c : Contents) (r : Option Parsed) → Some c ≡ contents_of text → Tells c.letter c r → r ≡ parsed_of (line_in text)
  unfolding fs contents_of
  line-tells c r e t = go (letter_at text 0) refl e
    where
      of : (letter : ℕ) → letter_at text 0 ≡ Some letter → (k : ReadNumbers) → numbers_of (numbers_in (take (most_numbers letter) fs)) ≡ Some k
          → c ≡ record { letter = letter; numbers = k; spot = spot_of (point_in (drop (most_numbers letter) fs)) } → r ≡ parsed_of (line_in text)
      of letter l k n ec =
          let el : c.letter ≡ letter = ap (λ (x : Contents). x.letter) ec in
          let en : c.numbers ≡ k = ap (λ (x : Contents). x.numbers) ec in
          let es : c.spot ≡ spot_of (point_in (drop (most_numbers letter) fs)) = ap (λ (x : Contents). x.spot) ec in
          t fs (rw el (record { numbers = rw en n; spot = es; few = omega (arith, fields-few text (next_place text 0) (letter-far text)) }))
          ∙ ap parsed_of (ap (λ (x : ℕ). line_of x fs) el ∙ sym (line-letter text h letter l))

      numbered-by : (letter : ℕ) → letter_at text 0 ≡ Some letter → (m : Option ReadNumbers) → numbers_of (numbers_in (take (most_numbers letter) fs)) ≡ m
          → Some c ≡ option_map (λ ns. record { letter = letter; numbers = ns; spot = spot_of (point_in (drop (most_numbers letter) fs)) }) m → r ≡ parsed_of (line_in text)
      numbered-by letter l None n e = let z : ◌≡◌ {A = ℕ} 0 1 = cc in let b : ⊥ = omega arith in absurd b
      numbered-by letter l (Some k) n e = of letter l k n cc

      go : (l : Option ℕ) → letter_at text 0 ≡ l
          → Some c ≡ option_and_then (λ letter. option_map (λ ns. record { letter = letter; numbers = ns; spot = spot_of (point_in (drop (most_numbers letter) fs)) })
          (numbers_of (numbers_in (take (most_numbers letter) fs)))) l → r ≡ parsed_of (line_in text)
      go None l e = let z : ◌≡◌ {A = ℕ} 0 1 = cc in let b : ⊥ = omega arith in absurd b
      go (Some letter) l e = numbered-by letter l (numbers_of (numbers_in (take (most_numbers letter) fs))) refl e

  pub line-unread : None ≡ contents_of text → line_in text ≡ unreadable
  unfolding fs contents_of
  line-unread e = go (letter_at text 0) refl e
    where
      numbered-by : (letter : ℕ) → letter_at text 0 ≡ Some letter → (m : Option ReadNumbers) → numbers_of (numbers_in (take (most_numbers letter) fs)) ≡ m
          → ◌≡◌ {A = Option Contents} None (option_map (λ ns. record { letter = letter; numbers = ns; spot = spot_of (point_in (drop (most_numbers letter) fs)) }) m) → line_in text ≡ unreadable
      numbered-by letter l None n e = line-letter text h letter l ∙ unread-line fs letter (was-unread (numbers_in (take (most_numbers letter) fs)) n)
      numbered-by letter l (Some k) n e = let z : ◌≡◌ {A = ℕ} 0 1 = cc in let b : ⊥ = omega arith in absurd b

      go : (l : Option ℕ) → letter_at text 0 ≡ l
          → ◌≡◌ {A = Option Contents} None (option_and_then (λ letter. option_map (λ ns. record { letter = letter; numbers = ns; spot = spot_of (point_in (drop (most_numbers letter) fs)) })
          (numbers_of (numbers_in (take (most_numbers letter) fs)))) l) → line_in text ≡ unreadable
      go None l e = line-unlettered text h l
      go (Some letter) l e = numbered-by letter l (numbers_of (numbers_in (take (most_numbers letter) fs))) refl e

pub no-letter : (letter : ℕ) (fs : List Text) → (letter ≡ 118 → ⊥) → (letter ≡ 102 → ⊥) → (letter ≡ 114 → ⊥) → (letter ≡ 115 → ⊥) → (letter ≡ 112 → ⊥)
    → (letter ≡ 98 → ⊥) → (letter ≡ 106 → ⊥) → (letter ≡ 120 → ⊥) → (letter ≡ 97 → ⊥) → line_of letter fs ≡ unreadable
unfolding line_of
no-letter letter fs v f r s p b j x a =
    rw (ne_eqb letter 118 v, ne_eqb letter 102 f, ne_eqb letter 114 r, ne_eqb letter 115 s, ne_eqb letter 112 p, ne_eqb letter 98 b, ne_eqb letter 106 j, ne_eqb letter 120 x, ne_eqb letter 97 a)
