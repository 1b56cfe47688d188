-- What a crash leaves of writes that are synced, one call after the other.
use Rattle.std.proofs.Common.{◌≡◌, ◌≤◌, ◌+◌, inl, inr, ⊎_elim, ℕ, List, Option, Some, OnOk, Result, Ok, Err, sym, ◌∙◌, ap, subst, arith}
use Rattle.std.specs.Prelude.{IfSome}
use Rattle.std.specs.Option.{option_map}
use Rattle.ld_disk.specs.Images.{overwrite, Torn, Follows, Only}
use Rattle.ld_disk.specs.Moments.{Elapses, LeavesOnly}
use Rattle.ld_disk.proofs.Runs.{started, goes_on}
use Rattle.ld_disk.proofs.Overwrites.{torn_same}
use Rattle.ld_segment.specs.Stays.{Rests}
use Rattle.ld_segment.specs.Left.{TornTwice}

pub both_ok : {T E A B C : Type 0} (r : Result T E) → OnOk r A → OnOk r B → (A → B → C) → OnOk r C
both_ok (Ok x) a b f = f a b
both_ok (Err e) a b f = tt

module _ {D : Type 0} (seen : D → Option (List ℕ)) (may_leave : D → List ℕ → Type 0) (moment : D → ℕ) (left_since : D → ℕ → List ℕ → Type 0) where
  abbrev Time : D → D → Type 0
  Time old new = Elapses (moment old) (moment new) (left_since old) (left_since new) (may_leave new)

  -- a run goes on with another one
  pub then_on : (old mid new : D) (P Q R : List ℕ → Type 0) → LeavesOnly moment left_since old mid P → LeavesOnly moment left_since mid new Q
      → ((c : List ℕ) → P c → R c) → ((c : List ℕ) → Q c → R c) → LeavesOnly moment left_since old new R
  then_on old mid new P Q R first second from_p from_q = record {
    later = omega (arith, first.later, second.later);
    each = λ c left. ⊎_elim (λ was. from_p c (first.each c was)) (from_q c) (second.before (moment old) c first.later left);
    before = λ t c le left. ⊎_elim (λ was. ⊎_elim (λ long. inl long) (λ has. inr (from_p c has)) (first.before t c le was)) (λ has. inr (from_q c has)) (second.before t c (omega (arith, le, first.later)) left);
  }

  -- what is said of a run in other words
  pub said_as : (old new : D) (P R : List ℕ → Type 0) → LeavesOnly moment left_since old new P → ((c : List ℕ) → P c → R c) → LeavesOnly moment left_since old new R
  said_as old new P R run from_p = record {
    later = run.later;
    each = λ c left. from_p c (run.each c left);
    before = λ t c le left. ⊎_elim (λ was. inl was) (λ has. inr (from_p c has)) (run.before t c le left);
  }

  -- a write and a sync rest where they succeed
  pub rests_synced : (d0 d1 d2 : D) (at : ℕ) (bytes b : List ℕ) → Rests seen may_leave d0 b → seen d1 ≡ option_map (overwrite at bytes) (seen d0)
      → seen d2 ≡ seen d1 → IfSome (seen d1) (λ now. Only now (may_leave d2)) → Rests seen may_leave d2 (overwrite at bytes b)
  rests_synced d0 d1 d2 at bytes b rests written same durable =
      let is : seen d1 ≡ Some (overwrite at bytes b) = written ∙ ap (option_map (overwrite at bytes)) rests.bytes_are in
      record { bytes_are = same ∙ is; stable = subst (λ o. IfSome o (λ now. Only now (may_leave d2))) is durable }

  pub rests_both : (d0 d1 d2 d3 : D) (at : ℕ) (bytes : List ℕ) (at_2 : ℕ) (bytes_2 b : List ℕ) → Rests seen may_leave d0 b → seen d1 ≡ option_map (overwrite at bytes) (seen d0) → seen d2 ≡ option_map (overwrite at_2 bytes_2) (seen d1)
      → seen d3 ≡ seen d2 → IfSome (seen d2) (λ now. Only now (may_leave d3)) → Rests seen may_leave d3 (overwrite at_2 bytes_2 (overwrite at bytes b))
  rests_both d0 d1 d2 d3 at bytes at_2 bytes_2 b rests written written_2 same durable =
      let is : seen d2 ≡ Some (overwrite at_2 bytes_2 (overwrite at bytes b)) = written_2 ∙ ap (option_map (overwrite at_2 bytes_2)) (written ∙ ap (option_map (overwrite at bytes)) rests.bytes_are) in
      record { bytes_are = same ∙ is; stable = subst (λ o. IfSome o (λ now. Only now (may_leave d3))) is durable }

  module _ (only_now : (d : D) (c : List ℕ) → left_since d (moment d) c → may_leave d c) (d0 : D) (at n : ℕ) (b : List ℕ) (rests : Rests seen may_leave d0 b) where
    abbrev P : List ℕ → Type 0
    P = Torn at n b

    begun : LeavesOnly moment left_since d0 d0 P
    begun = started moment left_since d0 P (λ c left. subst (λ l. Torn at n b l) (sym (rests.stable c (only_now d0 c left))) (torn_same at n b))

    module _ (d1 : D) (crash_1 : Follows (Torn at n) (may_leave d0) (may_leave d1)) (time_1 : Time d0 d1) where
      torn : (c : List ℕ) → may_leave d1 c → P c
      torn c left = let from = crash_1 c left in subst (λ l. Torn at n l c) (rests.stable from.0 from.1) from.2

      pub written_once : LeavesOnly moment left_since d0 d1 P
      written_once = goes_on moment left_since d0 d0 d1 P (may_leave d1) begun time_1 torn

      pub synced_once : (d2 : D) → ((c : List ℕ) → may_leave d2 c → may_leave d1 c) → Time d1 d2 → LeavesOnly moment left_since d0 d2 P
      synced_once d2 crash_2 time_2 = goes_on moment left_since d0 d1 d2 P (may_leave d2) written_once time_2 (λ c left. torn c (crash_2 c left))

      module _ (at_2 n_2 : ℕ) where
        abbrev Q : List ℕ → Type 0
        Q = TornTwice at n at_2 n_2 b

        pub one_of_both : LeavesOnly moment left_since d0 d1 Q
        one_of_both = said_as d0 d1 P Q written_once (λ c was. record { between = c; first = was; second = torn_same at_2 n_2 c })

        module _ (d2 : D) (crash_2 : Follows (Torn at_2 n_2) (may_leave d1) (may_leave d2)) (time_2 : Time d1 d2) where
          torn_twice : (c : List ℕ) → may_leave d2 c → Q c
          torn_twice c left = let from = crash_2 c left in record { between = from.0; first = torn from.0 from.1; second = from.2 }

          pub written_both : LeavesOnly moment left_since d0 d2 Q
          written_both = goes_on moment left_since d0 d1 d2 Q (may_leave d2) one_of_both time_2 torn_twice

          pub synced_both : (d3 : D) → ((c : List ℕ) → may_leave d3 c → may_leave d2 c) → Time d2 d3 → LeavesOnly moment left_since d0 d3 Q
          synced_both d3 crash_3 time_3 = goes_on moment left_since d0 d2 d3 Q (may_leave d3) written_both time_3 (λ c left. torn_twice c (crash_3 c left))

-- room that is spent by one call, and then by another
pub spent : {T E : Type 0} (r : Result T E) (n m both room mid room_after reach reach_mid reach_after : ℕ) → n + m ≡ both → (room ≤ mid + n) × (reach ≤ reach_mid) → OnOk r ((mid ≤ room_after + m) × (reach_mid ≤ reach_after)) → OnOk r ((room ≤ room_after + both) × (reach ≤ reach_after))
spent (Ok x) n m both room mid room_after reach reach_mid reach_after sum first second = (omega (arith, sum, first.0, second.0), omega (arith, first.1, second.1))
spent (Err e) n m both room mid room_after reach reach_mid reach_after sum first second = tt
