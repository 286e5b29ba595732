-- What a face insert answers to the number of its keys, whatever the mesh: more than 64 are answered with 2, fewer than three with 3 before any
-- lookup, each exactly then on a mesh that is ready.
use Prim.Native.Nat.{ℕ, ◌<◌}
use native.Mathlib.Omega.{arith}
use mathlib.Core.Path.{◌≡◌, refl, ap}
use mathlib.Core.Bool.{Bool, true, false, not, ◌||◌, cond}
use mathlib.Core.List.{List}
use mathlib.Core.Logic.{◌↔◌, ◌⊎◌, inl, inr}
use lib.ListN.{length}
use lib.Dec.{T, ltb, leb, leb→le}
use borrow.Author.Tests.{lt-ltb, le-leb, lt-leb, ltb-true, leb-false}
use Rattle.rules.specs.declared.Edit.TheVariants.{FaceInsert}
use Rattle.rules.specs.declared.Refusal.{Refusal}
use Rattle.rules.specs.declared.Refusal.TheVariants.{TopologyMalformed, TopologyNotFound, TopologyConflict, SamePlace}
use Rattle.rules.specs.Answer.{Answer}
use Rattle.rules.specs.Answer.{Done, Refused}
use Rattle.rules.specs.Mesh.{Mesh, Room, ring_limit}
use Rattle.rules.specs.Table.{has, distinct}
use Rattle.rules.specs.Step.{told, accepted, number_of}
use Rattle.rules.specs.Insert.{malformed, has_hair, conflict, insert_checks, insert_work}
use Rattle.rules.specs.Call.{ready, given, checks, moves_finite, work, by_keys, face_insert}
use Rattle.proved.specs.Demand.{Made, made}
use Rattle.proved.proofs.Rows.{T_true, T_false, true-T}
use Rattle.kept.specs.Exactly.{NotFit, NotFinite, ByRust, by-checks, in-mid-edit, FewOrTwice, KeysMalformed, KeysInOneSpot}
use Rattle.kept.proofs.Answers.{two-exactly, three-exactly, thirteen-exactly, not-accepted}

-- ---- malformed keys

few-or-twice : (keys : List ℕ) → malformed keys ≡ true → FewOrTwice keys
unfolding malformed
few-or-twice keys h = go (ltb (length keys) 3) refl h
  where
    go : (a : Bool) → ltb (length keys) 3 ≡ a → (a || not (distinct keys)) ≡ true → FewOrTwice keys
    go true p q = inl (ltb-true (length keys) 3 p)
    go false p q = inr (true-T q)

so-malformed : (keys : List ℕ) → FewOrTwice keys → malformed keys ≡ true
unfolding malformed
so-malformed keys (inl l) = rw (lt-ltb (length keys) 3 l)
so-malformed keys (inr t) = go (ltb (length keys) 3)
  where
    go : (a : Bool) → (a || not (distinct keys)) ≡ true
    go true = refl
    go false = T_true (not (distinct keys)) t

-- the checks of an insert refuse with 3 for that alone, and before any lookup
same_number : (q r : Refusal) → Refused q ≡ Refused r → number_of q ≡ number_of r
unfolding told
same_number q r e = ap (λ (a : Answer). (told a).number) e

module _ (m : Mesh) (keys per : List ℕ) where
  refused-malformed : insert_checks m keys per ≡ Refused TopologyMalformed → malformed keys ≡ true
  unfolding insert_checks number_of accepted
  refused-malformed h = go (malformed keys) refl (has per 0) (has_hair m per) (conflict m per) h
    where
      go : (a : Bool) → malformed keys ≡ a → (b c d : Bool) → cond a (Refused TopologyMalformed) (cond b (Refused TopologyNotFound) (cond c (Refused SamePlace) (cond d (Refused TopologyConflict) Done))) ≡ Refused TopologyMalformed → malformed keys ≡ true
      go true p b c d z = p
      go false p true c d z = let n = same_number TopologyNotFound TopologyMalformed z in let f : ⊥ = omega arith in absurd f
      go false p false true d z = let n = same_number SamePlace TopologyMalformed z in let f : ⊥ = omega arith in absurd f
      go false p false false true z = let n = same_number TopologyConflict TopologyMalformed z in let f : ⊥ = omega arith in absurd f
      go false p false false false z = absurd (not-accepted Done TopologyMalformed z)

  -- and with 13 behind these, and before both conflicts
  refused-in-one-spot : insert_checks m keys per ≡ Refused SamePlace → T (not (malformed keys)) × T (not (has per 0)) × T (has_hair m per)
  unfolding insert_checks number_of accepted
  refused-in-one-spot h = go (malformed keys) refl (has per 0) refl (has_hair m per) refl (conflict m per) h
    where
      go : (a : Bool) → malformed keys ≡ a → (b : Bool) → has per 0 ≡ b → (c : Bool) → has_hair m per ≡ c → (d : Bool) → cond a (Refused TopologyMalformed) (cond b (Refused TopologyNotFound) (cond c (Refused SamePlace) (cond d (Refused TopologyConflict) Done))) ≡ Refused SamePlace → T (not (malformed keys)) × T (not (has per 0)) × T (has_hair m per)
      go true p b q c r d z = let n = same_number TopologyMalformed SamePlace z in let f : ⊥ = omega arith in absurd f
      go false p true q c r d z = let n = same_number TopologyNotFound SamePlace z in let f : ⊥ = omega arith in absurd f
      go false p false q true r d z = (rw p tt, rw q tt, rw r tt)
      go false p false q false r true z = let n = same_number TopologyConflict SamePlace z in let f : ⊥ = omega arith in absurd f
      go false p false q false r false z = absurd (not-accepted Done SamePlace z)

  in-one-spot-refused : T (not (malformed keys)) → T (not (has per 0)) → T (has_hair m per) → insert_checks m keys per ≡ Refused SamePlace
  unfolding insert_checks
  in-one-spot-refused a b c = rw (T_false (malformed keys) a, T_false (has per 0) b, T_true (has_hair m per) c)

  malformed-refused : malformed keys ≡ true → insert_checks m keys per ≡ Refused TopologyMalformed
  unfolding insert_checks
  malformed-refused e = rw e

-- ---- a face insert

module _ (m : Mesh) (one two : Room) (keys : List ℕ) (mark : ℕ) where
  abbrev insert : Made
  insert = made (FaceInsert mark) keys one two

  -- 3 exactly when it is ready, there are at most 64 keys, and they are fewer than three or there are duplicates among them
  pub insert-three-exactly : ((told (face_insert m one two keys mark).answer).number ≡ 3) ↔ KeysMalformed m one two keys
  unfolding face_insert checks given work insert_work accepted
  insert-three-exactly = (λ n. forth ((three-exactly m insert).0 n), λ h. (three-exactly m insert).1 (back h))
    where
      forth : ByRust m insert TopologyMalformed → KeysMalformed m one two keys
      forth (by-checks at z) =
          record { is-ready = at.is-ready; at-most-64 = leb→le (length keys) ring_limit at.fit; few-or-twice = few-or-twice keys (refused-malformed m keys (by_keys m keys) z) }
      forth (in-mid-edit at z) = absurd (not-accepted (work m (FaceInsert mark) keys).answer TopologyMalformed z)

      back : KeysMalformed m one two keys → ByRust m insert TopologyMalformed
      back h =
          by-checks (record { is-ready = h.is-ready; fit = true-T (le-leb (length keys) ring_limit h.at-most-64) }) (malformed-refused m keys (by_keys m keys) (so-malformed keys h.few-or-twice))

  -- 13 exactly when it is ready, there are at most 64 keys, they are well formed and known, and two neighbours stand in one spot
  pub insert-thirteen-exactly : ((told (face_insert m one two keys mark).answer).number ≡ 13) ↔ KeysInOneSpot m one two keys
  unfolding face_insert checks given work insert_work accepted
  insert-thirteen-exactly = (λ n. forth ((thirteen-exactly m insert).0 n), λ h. (thirteen-exactly m insert).1 (back h))
    where
      forth : ByRust m insert SamePlace → KeysInOneSpot m one two keys
      forth (by-checks at z) =
          let w = refused-in-one-spot m keys (by_keys m keys) z in
          record { is-ready = at.is-ready; at-most-64 = leb→le (length keys) ring_limit at.fit; well-formed = w.0; all_known = w.1; one_spot = w.2 }
      forth (in-mid-edit at z) = absurd (not-accepted (work m (FaceInsert mark) keys).answer SamePlace z)

      back : KeysInOneSpot m one two keys → ByRust m insert SamePlace
      back h =
          by-checks (record { is-ready = h.is-ready; fit = true-T (le-leb (length keys) ring_limit h.at-most-64) }) (in-one-spot-refused m keys (by_keys m keys) h.well-formed h.all_known h.one_spot)

  -- fewer than three keys are answered with 3 exactly when the call is ready, whatever they name and whatever the mesh
  pub few-keys-three : length keys < 3 → ((told (face_insert m one two keys mark).answer).number ≡ 3) ↔ T (ready m one two)
  few-keys-three l =
      (λ n. (insert-three-exactly.0 n).is-ready, λ t. insert-three-exactly.1 (record { is-ready = t; at-most-64 = omega arith; few-or-twice = inl l }))

  -- 2 exactly when it is ready and there are more than 64 keys
  pub insert-two-exactly : ((told (face_insert m one two keys mark).answer).number ≡ 2) ↔ (T (ready m one two) × (ring_limit < length keys))
  unfolding face_insert given moves_finite
  insert-two-exactly = (λ n. forth ((two-exactly m insert).0 n), λ h. (two-exactly m insert).1 (inl (back h)))
    where
      forth : NotFit m insert ⊎ NotFinite m insert → T (ready m one two) × (ring_limit < length keys)
      forth (inl h) = (h.is-ready, leb-false (length keys) ring_limit (T_false (leb (length keys) ring_limit) h.not-fit))
      forth (inr h) = absurd h.not_finite

      back : T (ready m one two) × (ring_limit < length keys) → NotFit m insert
      back h = record { is-ready = h.0; not-fit = rw (lt-leb (length keys) ring_limit h.1) tt }
