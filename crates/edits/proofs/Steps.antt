-- An edit that repeats a part goes on while the part is accepted, and a refusal stays to the end.
use Prim.Native.Nat.{ℕ, zero, suc, ◌+◌, ◌≤◌, ◌<◌}
use native.Mathlib.Omega.{arith}
use native.Mathlib.Decide.{ℕ_discrete}
use mathlib.Core.Path.{◌≡◌, refl, ap, sym, ◌∙◌}
use mathlib.Core.Bool.{Bool, true, false}
use mathlib.Core.Logic.{◌⊎◌, inl, inr, ⊎_elim}
use Rattle.rules.specs.Answer.{Answer}
use Rattle.rules.specs.Answer.{Done, Key, Refused}
use Rattle.rules.specs.declared.Refusal.{Refusal}
use Rattle.rules.specs.Table.{up_to}
use Rattle.rules.specs.Mesh.{Mesh}
use Rattle.rules.specs.Step.{Step, step, accepted, and_then, answering, checked}
use Rattle.rules.proofs.Scan.{up_to-more}
use Rattle.edits.specs.Each.{each_in}

-- ---- one step

pub then-goes : (s : Step) (g : Mesh → Step) → accepted s.answer ≡ true → and_then s g ≡ g s.tables
unfolding and_then
then-goes s g e = rw e

pub then-stays : (s : Step) (g : Mesh → Step) → accepted s.answer ≡ false → and_then s g ≡ s
unfolding and_then
then-stays s g e = rw e

pub answers-it : (a : Answer) (s : Step) → accepted s.answer ≡ true → answering a s ≡ step s.tables a
unfolding answering
answers-it a s e = rw e

pub answers-not : (a : Answer) (s : Step) → accepted s.answer ≡ false → answering a s ≡ s
unfolding answering
answers-not a s e = rw e

pub checked-goes : (m : Mesh) (r : Answer) (s : Step) → accepted r ≡ true → checked m r s ≡ s
unfolding checked
checked-goes m r s e = rw e

pub checked-stops : (m : Mesh) (r : Answer) (s : Step) → accepted r ≡ false → checked m r s ≡ step m r
unfolding checked
checked-stops m r s e = rw e

pub done : accepted Done ≡ true
unfolding accepted
done = refl

pub a-key : (k : ℕ) → accepted (Key k) ≡ true
unfolding accepted
a-key k = refl

pub refused : (r : Refusal) → accepted (Refused r) ≡ false
unfolding accepted
refused r = refl

-- the whole answers, or its part's refusal
pub whole-done : (a : Answer) (m : Mesh) → step m a ≡ answering a (step m Done)
whole-done a m = sym (answers-it a (step m Done) done)

pub whole-key : (a : Answer) (m : Mesh) (k : ℕ) → step m a ≡ answering a (step m (Key k))
whole-key a m k = sym (answers-it a (step m (Key k)) (a-key k))

pub whole-refused : (a : Answer) (m : Mesh) (r : Refusal) → step m (Refused r) ≡ answering a (step m (Refused r))
whole-refused a m r = sym (answers-not a (step m (Refused r)) (refused r))

-- the answer of a part does not show in the answer of the whole
pub answering-twice : (a : Answer) (s : Step) → answering a (answering Done s) ≡ answering a s
answering-twice a s = go (accepted s.answer) refl
  where
    go : (b : Bool) → accepted s.answer ≡ b → answering a (answering Done s) ≡ answering a s
    go true e = ap (answering a) (answers-it Done s e) ∙ answers-it a (step s.tables Done) done ∙ sym (answers-it a s e)
    go false e = ap (answering a) (answers-not Done s e)

-- a step that is done was accepted, with those tables
pub record DoneWith (s : Step) (m : Mesh) : Type 0 where
  pub fine : accepted s.answer ≡ true
  pub left : s.tables ≡ m

pub done-with : (s : Step) (m : Mesh) → answering Done s ≡ step m Done → DoneWith s m
done-with s m h = go (accepted s.answer) refl
  where
    go : (b : Bool) → accepted s.answer ≡ b → DoneWith s m
    go true e = record { fine = e; left = ap (λ (t : Step). t.tables) (sym (answers-it Done s e) ∙ h) }
    go false e =
        let same : s ≡ step m Done = sym (answers-not Done s e) ∙ h in
        record { fine = ap (λ (t : Step). accepted t.answer) same ∙ done; left = ap (λ (t : Step). t.tables) same }

-- ---- a part repeated

abbrev turn : (ℕ → Mesh → Step) → ℕ → Step → Step
turn f i s = and_then s (f i)

-- one turn on what is done so far
turned : (f : ℕ → Mesh → Step) (i : ℕ) (m₀ m : Mesh) → answering Done (up_to (turn f) i (step m₀ Done)) ≡ step m Done → up_to (turn f) (i + 1) (step m₀ Done) ≡ f i m
turned f i m₀ m h =
    let s : Step = up_to (turn f) i (step m₀ Done) in
    let d : DoneWith s m = done-with s m h in
    up_to-more (turn f) i (step m₀ Done) ∙ then-goes s (f i) d.fine ∙ ap (f i) d.left

-- a refusal stays to the end
stays : (f : ℕ → Mesh → Step) (s₀ s : Step) (j n : ℕ) → j ≤ n → up_to (turn f) j s₀ ≡ s → accepted s.answer ≡ false → up_to (turn f) n s₀ ≡ s
unfolding up_to
stays f s₀ s j zero l e nay =
    let z : j ≡ 0 = omega arith in
    ap (λ (k : ℕ). up_to (turn f) k s₀) (sym z) ∙ e
stays f s₀ s j (suc n) l e nay = go (ℕ_discrete j (suc n)) (λ q. stays f s₀ s j n q e nay)
  where
    go : Dec (j ≡ suc n) → (j ≤ n → up_to (turn f) n s₀ ≡ s) → turn f n (up_to (turn f) n s₀) ≡ s
    go (yes q) ih = ap (λ (k : ℕ). up_to (turn f) k s₀) (sym q) ∙ e
    go (no nq) ih = ap (turn f n) (ih (omega arith)) ∙ then-stays s (f n) nay

module _ (f : ℕ → Mesh → Step) where
  pub each_none : (m : Mesh) → each_in f 0 m ≡ step m Done
  unfolding each_in up_to answering accepted
  each_none m = refl

  pub each_goes : (i : ℕ) (m₀ m m' : Mesh) (r : Answer) → each_in f i m₀ ≡ step m Done → step m' r ≡ f i m → accepted r ≡ true → each_in f (i + 1) m₀ ≡ step m' Done
  unfolding each_in
  each_goes i m₀ m m' r h e ok = ap (answering Done) (turned f i m₀ m h ∙ sym e) ∙ answers-it Done (step m' r) ok

  pub each-stops : (i n : ℕ) (m₀ m m' : Mesh) (r : Answer) → i < n → each_in f i m₀ ≡ step m Done → step m' r ≡ f i m → accepted r ≡ false → step m' r ≡ each_in f n m₀
  unfolding each_in
  each-stops i n m₀ m m' r l h e nay =
      let here : up_to (turn f) (i + 1) (step m₀ Done) ≡ step m' r = turned f i m₀ m h ∙ sym e in
      sym (ap (answering Done) (stays f (step m₀ Done) (step m' r) (i + 1) n (omega arith) here nay) ∙ answers-not Done (step m' r) nay)

  -- it answers that it is done already
  pub each-told : (n : ℕ) (m : Mesh) → answering Done (each_in f n m) ≡ each_in f n m
  unfolding each_in
  each-told n m = answering-twice Done (up_to (turn f) n (step m Done))

  -- the whole, from its part
  pub each-as : (a : Answer) (n : ℕ) (m : Mesh) → answering a (each_in f n m) ≡ answering a (up_to (λ i s. and_then s (f i)) n (step m Done))
  unfolding each_in
  each-as a n m = answering-twice a (up_to (turn f) n (step m Done))

-- ---- from a start that has an answer already

same-done : (g : Mesh → Step) (s s' : Step) → answering Done s ≡ answering Done s' → accepted s.answer ≡ true → and_then s g ≡ and_then s' g
same-done g s s' h e =
    let d : DoneWith s' s.tables = done-with s' s.tables (sym h ∙ answers-it Done s e) in
    then-goes s g e ∙ ap g (sym d.left) ∙ sym (then-goes s' g d.fine)

same_then : (g : Mesh → Step) (s s' : Step) → answering Done s ≡ answering Done s' → and_then s g ≡ and_then s' g ⊎ s ≡ s'
same_then g s s' h = go (accepted s.answer) (accepted s'.answer) refl refl
  where
    go : (b b' : Bool) → accepted s.answer ≡ b → accepted s'.answer ≡ b' → and_then s g ≡ and_then s' g ⊎ s ≡ s'
    go true b' e e' = inl (same-done g s s' h e)
    go false true e e' = inl (sym (same-done g s' s (sym h) e'))
    go false false e e' = inr (sym (answers-not Done s e) ∙ h ∙ answers-not Done s' e')

each_same : (f : ℕ → Mesh → Step) (n : ℕ) (s s' : Step) → answering Done s ≡ answering Done s' → answering Done (up_to (turn f) n s) ≡ answering Done (up_to (turn f) n s')
unfolding up_to
each_same f zero s s' h = h
each_same f (suc n) s s' h =
    let t : Step = up_to (turn f) n s in
    let t' : Step = up_to (turn f) n s' in
    ⊎_elim (λ q. ap (answering Done) q) (λ q. ap (λ (u : Step). answering Done (turn f n u)) q) (same_then (f n) t t' (each_same f n s s' h))

module _ (f : ℕ → Mesh → Step) where
  -- that answer was no refusal
  pub each_from : (a : Answer) (n : ℕ) (m : Mesh) (r : Answer) → accepted r ≡ true → answering a (up_to (λ i s. and_then s (f i)) n (step m r)) ≡ answering a (each_in f n m)
  unfolding each_in
  each_from a n m r ok =
      sym (answering-twice a (up_to (turn f) n (step m r)))
      ∙ ap (answering a) (each_same f n (step m r) (step m Done) (answers-it Done (step m r) ok ∙ sym (answers-it Done (step m Done) done)))

  -- or it was
  pub each-refused : (a : Answer) (n : ℕ) (m : Mesh) (r : Answer) → accepted r ≡ false → step m r ≡ answering a (up_to (λ i s. and_then s (f i)) n (step m r))
  unfolding up_to
  each-refused a n m r nay =
      sym (ap (answering a) (stays f (step m r) (step m r) 0 n (omega arith) refl nay) ∙ answers-not a (step m r) nay)
