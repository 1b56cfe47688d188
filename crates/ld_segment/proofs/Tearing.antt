-- Writes behind a shut gate that are synced together, and the gate that is opened then.
use Rattle.std.proofs.Common.{◌≡◌, ◌≤◌, ◌+◌, min, inl, inr, ℕ, List, [], ◌∷◌, length, take, Option, Some, sym, ◌∙◌, ap, subst, arith}
use Rattle.std.proofs.lemmas.List.{take-take}
use Rattle.std.specs.Prelude.{IfSome}
use Rattle.std.specs.Option.{option_map}
use Rattle.ld_disk.specs.Images.{overwrite, Torn, Follows, Only}
use Rattle.ld_disk.specs.Moments.{Elapses, LeavesOnly}
use Rattle.ld_disk.proofs.Runs.{started, goes_on}
use Rattle.ld_journal.specs.Format.{behind}
use Rattle.ld_segment.specs.Stays.{Rests}
use Rattle.ld_segment.specs.Left.{staged}
use Rattle.ld_segment.specs.Lies.{with_body}
use Rattle.ld_segment.specs.Groups.{Tears, IsGroupTorn, opened_at}
use Rattle.ld_segment.proofs.Ranges.{same_behind}
use Rattle.ld_segment.proofs.Rows.{length-behind}

-- a torn write behind another one's begin, within a wider range
pub torn_more : (from n at k m : ℕ) (old mid new : List ℕ) → from ≤ at → n ≤ m → at + k ≤ from + m → Torn from n old mid → Torn at k mid new → Torn from m old new
torn_more from n at k m old mid new begin wide end first second =
    let short : ℕ = min from (length old) in
    let long : ℕ = min at (length mid) in
    let within : short ≤ long = omega (arith, begin, first.no_shorter) in
    record {
      before = sym (take-take short long new within) ∙ ap (λ (l : List ℕ). take short l) second.before ∙ take-take short long mid within ∙ first.before;
      after = same_behind (at + k) (from + m) mid new second.after end ∙ same_behind (from + n) (from + m) old mid first.after (omega (arith, wide));
      no_shorter = omega (arith, first.no_shorter, second.no_shorter);
      no_longer = omega (arith, first.no_longer, second.no_longer, end, wide);
    }

module _ {D : Type 0} (seen : D → Option (List ℕ)) (may_leave : D → List ℕ → Type 0) (moment : D → ℕ) (left_since : D → ℕ → List ℕ → Type 0) where
  abbrev Time : D → D → Type 0
  Time old new = Elapses (moment old) (moment new) (left_since old) (left_since new) (may_leave new)

  -- the first record of a group
  pub staged_first : (d0 d1 : D) (gate : ℕ) (body b : List ℕ) → Rests seen may_leave d0 b → Follows (Torn (gate + 1) (length (behind body))) (may_leave d0) (may_leave d1) → seen d1 ≡ option_map (overwrite (gate + 1) (behind body)) (seen d0)
      → Tears seen may_leave d1 (gate + 1) (length (behind body)) b (staged gate body b)
  staged_first d0 d1 gate body b rests crash written = record {
    bytes_are = written ∙ ap (option_map (overwrite (gate + 1) (behind body))) rests.bytes_are;
    images = λ c left. (let from = crash c left in subst (λ l. Torn (gate + 1) (length (behind body)) l c) (rests.stable from.0 from.1) from.2);
  }

  module _ (only_now : (d : D) (c : List ℕ) → left_since d (moment d) c → may_leave d c) (d0 : D) where
    -- ---- a later record ----

    module _ (from n m : ℕ) (safe shown : List ℕ) (tears : Tears seen may_leave d0 from n safe shown) (gate : ℕ) (body : List ℕ) (begin : from ≤ gate) (wide : n ≤ m) (end : from + m ≡ gate + 6 + length body) where
      module _ (d1 : D) (crash_1 : Follows (Torn (gate + 1) (length (behind body))) (may_leave d0) (may_leave d1)) (time_1 : Time d0 d1) where
        torn_1 : (c : List ℕ) → may_leave d1 c → Torn from m safe c
        torn_1 c left =
            let was = crash_1 c left in
            torn_more from n (gate + 1) (length (behind body)) m safe was.0 c (omega (arith, begin)) wide (omega (arith, end, length-behind body)) (tears.images was.0 was.1) was.2

        pub written_behind : LeavesOnly moment left_since d0 d1 (Torn from m safe)
        written_behind = goes_on moment left_since d0 d0 d1 (Torn from m safe) (may_leave d1)
            (started moment left_since d0 (Torn from m safe) (λ c left. (let was = tears.images c (only_now d0 c left) in record {
              before = was.before;
              after = same_behind (from + n) (from + m) safe c was.after (omega (arith, wide));
              no_shorter = was.no_shorter;
              no_longer = omega (arith, was.no_longer, wide);
            }))) time_1 torn_1

        module _ (d2 : D) (crash_2 : Follows (Torn gate 1) (may_leave d1) (may_leave d2)) (time_2 : Time d1 d2) where
          torn_2 : (c : List ℕ) → may_leave d2 c → Torn from m safe c
          torn_2 c left =
              let was = crash_2 c left in
              torn_more from m gate 1 m safe was.0 c begin (omega arith) (omega (arith, end)) (torn_1 was.0 was.1) was.2

          pub gate_written : LeavesOnly moment left_since d0 d2 (Torn from m safe)
          gate_written = goes_on moment left_since d0 d1 d2 (Torn from m safe) (may_leave d2) written_behind time_2 torn_2

          pub staged_more : seen d1 ≡ option_map (overwrite (gate + 1) (behind body)) (seen d0) → seen d2 ≡ option_map (overwrite gate (1 ∷ [])) (seen d1) → Tears seen may_leave d2 from m safe (with_body gate body shown)
          staged_more written_1 written_2 = record {
            bytes_are = written_2 ∙ ap (option_map (overwrite gate (1 ∷ []))) (written_1 ∙ ap (option_map (overwrite (gate + 1) (behind body))) tears.bytes_are);
            images = torn_2;
          }

    -- ---- the gate ----

    module _ (gate n : ℕ) (safe shown : List ℕ) (tears : Tears seen may_leave d0 (gate + 1) n safe shown) where
      abbrev P : List ℕ → Type 0
      P = IsGroupTorn gate n safe shown

      module _ (d1 : D) (crash_1 : (c : List ℕ) → may_leave d1 c → may_leave d0 c) (time_1 : Time d0 d1) where
        pub synced : LeavesOnly moment left_since d0 d1 P
        synced = goes_on moment left_since d0 d0 d1 P (may_leave d1) (started moment left_since d0 P (λ c left. inl (tears.images c (only_now d0 c left)))) time_1 (λ c left. inl (tears.images c (crash_1 c left)))

        module _ (durable : IfSome (seen d0) (λ bytes. Only bytes (may_leave d1))) (d2 : D) (crash_2 : Follows (Torn gate 1) (may_leave d1) (may_leave d2)) (time_2 : Time d1 d2) where
          only : Only shown (may_leave d1)
          only = subst (λ o. IfSome o (λ bytes. Only bytes (may_leave d1))) tears.bytes_are durable

          either : (c : List ℕ) → may_leave d2 c → P c
          either c left = let was = crash_2 c left in inr (subst (λ l. Torn gate 1 l c) (only was.0 was.1) was.2)

          pub opening : LeavesOnly moment left_since d0 d2 P
          opening = goes_on moment left_since d0 d1 d2 P (may_leave d2) synced time_2 either

          pub opened_all : (d3 : D) → ((c : List ℕ) → may_leave d3 c → may_leave d2 c) → Time d2 d3 → LeavesOnly moment left_since d0 d3 P
          opened_all d3 crash_3 time_3 = goes_on moment left_since d0 d2 d3 P (may_leave d3) opening time_3 (λ c left. either c (crash_3 c left))

      pub rests_open : (d1 d2 d3 : D) → seen d1 ≡ seen d0 → seen d2 ≡ option_map (overwrite gate (1 ∷ [])) (seen d1) → seen d3 ≡ seen d2 → IfSome (seen d2) (λ bytes. Only bytes (may_leave d3)) → Rests seen may_leave d3 (opened_at gate shown)
      rests_open d1 d2 d3 same_1 written same_3 durable =
          let is : seen d2 ≡ Some (opened_at gate shown) = written ∙ ap (option_map (overwrite gate (1 ∷ []))) (same_1 ∙ tears.bytes_are) in
          record { bytes_are = same_3 ∙ is; stable = subst (λ o. IfSome o (λ bytes. Only bytes (may_leave d3))) is durable }
