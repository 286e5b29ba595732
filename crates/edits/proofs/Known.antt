-- What an edit knows of the tables near it stays true through all that it makes.
use Prim.Native.Nat.{ℕ, zero, suc}
use mathlib.Core.Path.{◌≡◌, refl, ap, sym, subst, ◌∙◌}
use mathlib.Core.Bool.{Bool, true, false, cond}
use borrow.Author.Tests.{eq-eqb, ne_eqb}
use Rattle.rules.specs.Answer.{Answer}
use Rattle.rules.specs.Answer.{Done}
use Rattle.rules.specs.Table.{up_to}
use Rattle.rules.specs.Mesh.{Mesh, arc_between}
use Rattle.rules.specs.Link.{new_edge, get_or_insert_edge}
use Rattle.rules.specs.Step.{Step, step, accepted, and_then, answering}
use Rattle.makers.specs.Makers.{searching, get_or_insert_edge_by, arc_bridge_by}
use Rattle.pairs.proofs.Filled.{near-stays}
use Rattle.insert.proofs.Filled.{Filled, as-it-is, and-then, used-stays}
use Rattle.edits.specs.declared.near.Around.{Around}
use Rattle.edits.specs.Each.{each_in, joined_by}
use Rattle.edits.specs.Known.{Known}

pub known-stays : (m n : Mesh) (k : Around) → Filled m n → Known m k → Known n k
known-stays m n k f h = record {
  listed = near-stays m.arcs n.arcs k.near f.arcs h.listed;
  arcs-used = used-stays m.arcs n.arcs k.from.arc f.arcs h.arcs-used;
  edges-used = used-stays m.edges n.edges k.from.edge f.edges h.edges-used;
  faces-used = used-stays m.faces n.faces k.from.face f.faces h.faces-used;
}

-- by a step that leaves a mesh so
pub known-then : (m n o : Mesh) (k : Around) → Filled m o → n ≡ o → Known m k → Known n k
known-then m n o k f e h = known-stays m n k (subst (Filled m) (sym e) f) h

-- ---- the edge of an arc extrude

module _ (m n : Mesh) (a b x : ℕ) (ex : x ≡ arc_between m.arcs a b) where
  pub edge-there : (x ≡ 0 → ⊥) → m ≡ get_or_insert_edge m a b
  unfolding get_or_insert_edge
  edge-there h = rw (ne_eqb (arc_between m.arcs a b) 0 (λ z. h (ex ∙ z)))

  pub edge-made : x ≡ 0 → n ≡ new_edge m a b → n ≡ get_or_insert_edge m a b
  unfolding get_or_insert_edge
  edge-made z e = rw (eq-eqb (arc_between m.arcs a b) 0 (sym ex ∙ z)) e

pub joined_by_lem : (m m₁ : Mesh) (s : Step) (x c d y : ℕ) → m₁ ≡ get_or_insert_edge m c d → y ≡ arc_between m₁.arcs c d → s ≡ arc_bridge_by searching m₁ x y → s ≡ joined_by searching m x c d
unfolding joined_by get_or_insert_edge get_or_insert_edge_by
joined_by_lem m m₁ s x c d y e ey es = es ∙ ap (arc_bridge_by searching m₁ x) ey ∙ ap (λ (n : Mesh). arc_bridge_by searching n x (arc_between n.arcs c d)) e

-- ---- a part repeated

module _ (f : ℕ → Mesh → Step) (fills : (i : ℕ) (m : Mesh) → Filled m (f i m).tables) (m : Mesh) where
  turn-filled : (i : ℕ) (s : Step) → Filled m s.tables → Filled m (and_then s (f i)).tables
  unfolding and_then
  turn-filled i s h = go (accepted s.answer)
    where
      go : (b : Bool) → Filled m (cond b (f i s.tables) s).tables
      go true = and-then m s.tables (f i s.tables).tables h (fills i s.tables)
      go false = h

  turns-filled : (n : ℕ) → Filled m (up_to (λ i s. and_then s (f i)) n (step m Done)).tables
  unfolding up_to
  turns-filled zero = as-it-is m
  turns-filled (suc n) = turn-filled n (up_to (λ i s. and_then s (f i)) n (step m Done)) (turns-filled n)

  answered : (a : Answer) (s : Step) → (answering a s).tables ≡ s.tables
  unfolding answering
  answered a s = go (accepted s.answer)
    where
      go : (b : Bool) → (cond b (step s.tables a) s).tables ≡ s.tables
      go true = refl
      go false = refl

  -- in the middle of it, o being what is done so far
  pub known-each : (n : ℕ) (o : Mesh) (k : Around) → each_in f n m ≡ step o Done → Known m k → Known o k
  unfolding each_in
  known-each n o k e h =
      let s : Step = up_to (λ i t. and_then t (f i)) n (step m Done) in
      known-then m o s.tables k (turns-filled n) (sym (ap (λ (t : Step). t.tables) e) ∙ answered Done s) h
