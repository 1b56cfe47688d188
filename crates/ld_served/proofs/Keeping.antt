-- Some node that a look at an epoch shows accounts for each number of it: of a closed epoch between the closing plan's trim and its end, of a log's last one where the number is acknowledged.
use Rattle.std.proofs.Common.{◌≡◌, ◌⊎◌, ◌≤◌, ◌<◌, ℕ, inl, inr, refl, ap, subst, Bool, true, false, ◌||◌, List, [], ◌∷◌, length, Some, arith}
use Rattle.std.proofs.lemmas.Bool.{or_left, or_right, or_cases}
use Rattle.ld_table.specs.Table.{find}
use Rattle.ld_table.specs.Words.{how_many, any_of}
use Rattle.ld_lsn.specs.Number.{epoch_of, numbered, home_epoch}
use Rattle.ld_config.specs.declared.config.Config.{Config}
use Rattle.ld_msg.specs.declared.msg.What.{What}
use Rattle.ld_msg.specs.declared.msg.What.TheVariants.{Rec}
use Rattle.ld_msg.specs.declared.msg.Entry.{Entry}
use Rattle.ld_msg.specs.declared.msg.Summary.{Summary}
use Rattle.ld_msg.specs.Digest.{is_bridge}
use Rattle.ld_msg.specs.Register.{lce_of}
use Rattle.ld_op.specs.Plain.{Plain, log_of}
use Rattle.ld_machine.specs.Config.{fixed_of, fixed_at, spec_of, set_at}
use Rattle.ld_machine.specs.State.{node_at}
use Rattle.ld_machine.specs.Facts.{Happened}
use Rattle.ld_machine.specs.World.{World, In, MayHold, joins_there}
use Rattle.ld_machine.specs.Invariant.{Closed}
use Rattle.ld_safety.proofs.Lists.{count_mono, some_or_none}
use Rattle.ld_safety.proofs.Members.{find_in}
use Rattle.ld_safety.proofs.GivenSteps.{BaseGiven}
use Rattle.ld_safety.proofs.Along.{Along}
use Rattle.ld_safety.proofs.Registers.{Reached, look_like}
use Rattle.ld_safety.proofs.Joins.{now_members, now_count}
use Rattle.ld_safety.proofs.Protocol.{Basis, plan_of, StoredBy, told_stored, tells_stored}
use Rattle.ld_safety.proofs.Settled.{Acknowledged}
use Rattle.ld_safety.proofs.Said.{SaidHere}
use Rattle.ld_safety.proofs.Copies.{Copied}
use Rattle.ld_safety.proofs.CopiesStand.{said_at, copied_at}
use Rattle.ld_safety.proofs.LostTrims.{TrimsTold}
use Rattle.ld_safety.proofs.LostTold.{told_copied}
use Rattle.ld_safety.proofs.LostEntries.{Accounts}
use Rattle.ld_safety.proofs.LostPages.{CleanKept, Enough}
use Rattle.ld_safety.proofs.LostJoined.{clean_kept, summaries_here}
use Rattle.ld_safety.proofs.Specs.{SpecFine}
use Rattle.ld_served.proofs.Waits.{LooksFine}

-- a list that isn't empty has a member
some_member : (ys : List ℕ) → 1 ≤ length ys → (y : ℕ) × In y ys
some_member [] h = absurd (omega arith)
some_member (y ∷ ys) h = (y, inl refl)

-- so has a set with a copy at least, and as many nodes as copies
pub some_node : (c : Config) (w : World) (l e : ℕ) → SpecFine (spec_of c w.state.register l e) → (y : ℕ) × In y (set_at c w.state.register l e)
some_node c w l e F = some_member (set_at c w.state.register l e) (let a = F.least in let b = F.most in omega arith)

module _ (c : Config) (hs : List Happened) (w : World) (B : BaseGiven c hs w × Along c hs w) where
  -- ---- closed epochs ----
  module _ (T : TrimsTold w) (L : LooksFine c w.state.register) (l n : ℕ) (z : Summary) (f : Closed w l (home_epoch n) z) (pos : 0 < home_epoch n) (lo : z.trim < n) (hi : n < numbered (home_epoch n) z.end) where
    abbrev e : ℕ
    e = home_epoch n

    K : CleanKept c w
    K = clean_kept c hs w (B, T)

    reached : Reached w.state.register l e
    reached = (pos, (K.bounded l e z f pos).0)

    fine : SpecFine (spec_of c w.state.register l e)
    fine = L l e reached

    -- a node that accounts for the number in each state that a load may find
    Kept_by : ℕ → Type 0
    Kept_by y = (p : Plain) → MayHold (node_at w.state y) p → Accounts p l e n

    -- it answered for the number, or took a place in the epoch
    answered : ℕ → Bool
    answered y = told_copied w l n z y || any_of (joins_there l e y) w.joined

    answers_kept : (y : ℕ) → answered y ≡ true → Kept_by y
    unfolding answered Kept_by
    answers_kept y t p m = elim (or_cases (told_copied w l n z y) (any_of (joins_there l e y) w.joined) t) [ inl a ↦ K.copies y l n z p f lo hi a m | inr a ↦ K.joined y l n z p f lo hi a m ]

    enough_now : Enough c w l n z → 1 ≤ how_many answered (set_at c w.state.register l e)
    unfolding answered
    enough_now h =
        let a = count_mono (told_copied w l n z) answered (fixed_at c w.state.register l e) (λ y i t. or_left (told_copied w l n z y) (any_of (joins_there l e y) w.joined) t) in
        let b = now_count c w.joined w.state.register l e answered K.follow K.each reached (λ y j. or_right (told_copied w l n z y) (any_of (joins_there l e y) w.joined) j) in
        let g = (look_like c w.state.register l e K.each reached).factor in let m = fine.least in omega arith

    by_enough : Enough c w l n z → (y : ℕ) × In y (set_at c w.state.register l e) × Kept_by y
    by_enough h = elim (some_or_none answered (set_at c w.state.register l e)) [
      | inl a ↦ (a.0, a.1, answers_kept a.0 a.2)
      | inr a ↦ absurd (let u = enough_now h in omega arith)
    ]

    by_each : ((y : ℕ) (p : Plain) → In y (fixed_at c w.state.register l e) → MayHold (node_at w.state y) p → Accounts p l e n) → (y : ℕ) × In y (set_at c w.state.register l e) × Kept_by y
    unfolding Kept_by
    by_each h = let y = some_node c w l e fine in (y.0, y.1, λ p m. elim (now_members c w.joined w.state.register l e y.0 K.follow K.each reached y.1) [ inl i ↦ h y.0 p i m | inr j ↦ K.joined y.0 l n z p f lo hi j m ])

    pub some_accounts : (y : ℕ) × In y (set_at c w.state.register l e) × ((p : Plain) → MayHold (node_at w.state y) p → Accounts p l e n)
    unfolding Kept_by
    some_accounts = elim (K.settled l n z f lo hi) [ inl h ↦ by_enough h | inr h ↦ by_each h ]

  -- ---- open epochs that no plan is made of ----
  module _ (l n : ℕ) (above : lce_of w.state.register l < epoch_of n) (none : (b : ℕ) (d : Basis) → In (plan_of l (epoch_of n) b d) w.made → ⊥) (a : Acknowledged c hs w.state.network.sent w.state.register l n) where
    not_closed : (y : ℕ) (p : Plain) (z : Summary) → MayHold (node_at w.state y) p → find (epoch_of n) (log_of p l).summaries ≡ Some z → ⊥
    not_closed y p z m f =
        let k = summaries_here c hs w B y l (epoch_of n) p z m a.reached.0 f in
        elim (B.1.said.register l (epoch_of n) z k.0).1 [ inl q ↦ (let u = q.0 in omega arith) | inr q ↦ (let u = q.low in omega arith) ]

    no_bridge : (x : What) (p : List ℕ) → x ≡ Rec p → is_bridge x ≡ false
    no_bridge x p h = ap is_bridge h

    entry_fine : (y : ℕ) (p : Plain) (f : Entry) → MayHold (node_at w.state y) p → find n (log_of p l).entries ≡ Some f → is_bridge f.what ≡ false
    entry_fine y p f m q =
        let o = (said_at c hs w B y p m l).entries (n, f) (find_in n (log_of p l).entries f q) in
        let t = subst (λ v. SaidHere hs w.made w.state.register l f.ballot v f.what) o.0 o.1 in
        elim t.says [
          | inl (inl k) ↦ no_bridge f.what k.payload k.is
          | inl (inr k) ↦ absurd (none f.ballot k.basis k.planned)
          | inr (inl k) ↦ no_bridge f.what k.good.says.payload k.good.says.is
          | inr (inr k) ↦ k.content
        ]

    -- who stored it accounts for it
    stored_accounts : (y : ℕ) (p : Plain) → MayHold (node_at w.state y) p → StoredBy w.state.network.sent l y n (epoch_of n) → Accounts p l (epoch_of n) n
    stored_accounts y p m i = by_copy (copied_at c hs w B y p m l n (epoch_of n) a.above (inl i)) where
      by_copy : (p.generation ≡ 0) ⊎ Copied w.made l (log_of p l) n (epoch_of n) → Accounts p l (epoch_of n) n
      by_copy (inl h) = inl h
      by_copy (inr (inl h)) = inr (inl h)
      by_copy (inr (inr (inr h))) = absurd (not_closed y p h.0 m h.1)
      by_copy (inr (inr (inl (inl h)))) = inr (inr (inl h))
      by_copy (inr (inr (inl (inr (inl h))))) = inr (inr (inr (h.entry, h.found_at, entry_fine y p h.entry m h.found_at)))
      by_copy (inr (inr (inl (inr (inr h))))) = absurd (none h.ballot h.basis h.planned)

    pub acked_accounts : SpecFine (fixed_of c w.state.register l (epoch_of n)) → (y : ℕ) × In y (fixed_at c w.state.register l (epoch_of n)) × ((p : Plain) → MayHold (node_at w.state y) p → Accounts p l (epoch_of n) n)
    acked_accounts F = elim (some_or_none (tells_stored w.state.network.sent l n (epoch_of n)) (fixed_at c w.state.register l (epoch_of n))) [
      | inl k ↦ (k.0, k.1, λ p m. stored_accounts k.0 p m (told_stored w.state.network.sent l n (epoch_of n) k.0 k.2))
      | inr k ↦ absurd (let u = a.chosen in let v = F.least in omega arith)
    ]
