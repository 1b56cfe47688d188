-- What a sequencer acknowledged was stored by as many nodes as there are copies, and what it released covers such numbers alone.
use Rattle.std.proofs.Common.{◌≡◌, ◌∙◌, ◌≤◌, ◌<◌, ℕ, suc, ◌+◌, inl, inr, refl, ap, sym, subst, Bool, true, false, nat_lt, if◌then◌else◌, List, [], ◌∷◌, Some, arith}
use Rattle.ld_safety.proofs.Protocol.{Chosen, tells_stored}
use Rattle.ld_ids.specs.Choice.{nodes_of}
use Rattle.std.proofs.lemmas.Bool.{cases_order, leb-true, ltb-false}
use Rattle.ld_table.specs.Table.{find, put}
use Rattle.ld_lsn.specs.Number.{epoch_of, esn_of, numbered, epoch_end, last_esn}
use Rattle.ld_ids.specs.declared.set.Spec.{Spec}
use Rattle.ld_config.specs.declared.config.Config.{Config}
use Rattle.ld_msg.specs.declared.msg.Msg.{Msg}
use Rattle.ld_msg.specs.Register.{Register, lce_of}
use Rattle.ld_msg.specs.Sequencer.{Sequencer, Append, released_of, is_acked, acked_first, unacked_from, stored_at, with_append, raised, next_wave, next_esn}
use Rattle.ld_machine.specs.Config.{fixed_of, has_log}
use Rattle.ld_machine.specs.Facts.{Happened}
use Rattle.ld_machine.specs.World.{In}
use Rattle.ld_safety.proofs.Lists.{cond_both}
use Rattle.ld_safety.proofs.Members.{find_in, In_put}
use Rattle.ld_safety.proofs.Registers.{Up, Reached, reached_later}
use Rattle.ld_safety.proofs.Appends.{InRow, RowOf, put_in_row}
use Rattle.ld_safety.proofs.Given.{AppendedBy}
use Rattle.ld_safety.proofs.Votes.{Voters, one_voter, counted_votes}
use Rattle.ld_safety.proofs.Settled.{Acknowledged, ReleaseFine, LngFine, Stays, tells_more}

-- ---- lists of appends ----
pub acked_in_row : (s : Spec) (n : ℕ) (m : List (ℕ × Append)) (k : ℕ) → InRow n m → n ≤ k → k < n + acked_first s m → (p : ℕ × Append) × In p m × (p.0 ≡ k) × (is_acked s p.1 ≡ true)
acked_in_row s n [] k r lo hi = absurd (omega arith)
acked_in_row s n (p ∷ m) k r lo hi = by_acked (is_acked s p.1) refl hi (acked_in_row s (n + 1) m k r.1) where
  by_acked : (b : Bool) → is_acked s p.1 ≡ b → k < n + (if b then suc (acked_first s m) else 0) → (n + 1 ≤ k → k < n + 1 + acked_first s m → (p : ℕ × Append) × In p m × (p.0 ≡ k) × (is_acked s p.1 ≡ true)) → (x : ℕ × Append) × In x (p ∷ m) × (x.0 ≡ k) × (is_acked s x.1 ≡ true)
  by_acked false q h ih = absurd (omega arith)
  by_acked true q h ih = elim (cases_order n k) [
    | inl e ↦ (p, inl refl, r.0 ∙ e, q)
    | inr (inl l) ↦ let z = ih (omega arith) (omega arith) in (z.0, inr z.1, z.2, z.3)
    | inr (inr l) ↦ absurd (omega arith)
  ]

pub unacked_in : (s : Spec) (m : List (ℕ × Append)) (x : ℕ × Append) → In x (unacked_from s m) → In x m
unacked_in s [] x i = absurd i
unacked_in s (p ∷ m) x i = cond_both (is_acked s p.1) (unacked_from s m) (p ∷ m) (λ l. In x l → In x (p ∷ m)) (λ t j. inr (unacked_in s m x j)) (λ t j. j) i

-- an append that is sent in a later wave
pub raised_in : (s : Spec) (m : List (ℕ × Append)) (x : ℕ × Append) → In x (raised s m) → (p : ℕ × Append) × In p m × (x.0 ≡ p.0) × (x.1.payload ≡ p.1.payload) × (x.1.stored ≡ p.1.stored)
raised_in s [] x i = absurd i
raised_in s (p ∷ m) x (inl e) = (
  p,
  inl refl,
  ap (λ (z : ℕ × Append). z.0) e,
  ap (λ (z : ℕ × Append). z.1.payload) e ∙ cond_both (is_acked s p.1) p.1 (record { payload = p.1.payload; wave = next_wave p.1.wave; stored = p.1.stored }) (λ (z : Append). z.payload ≡ p.1.payload) (λ t. refl) (λ t. refl),
  ap (λ (z : ℕ × Append). z.1.stored) e ∙ cond_both (is_acked s p.1) p.1 (record { payload = p.1.payload; wave = next_wave p.1.wave; stored = p.1.stored }) (λ (z : Append). z.stored ≡ p.1.stored) (λ t. refl) (λ t. refl),
)
raised_in s (p ∷ m) x (inr i) = let r = raised_in s m x i in (r.0, inr r.1, r.2, r.3, r.4)

-- ---- a sequencer ----
module _ (c : Config) (hs : List Happened) (sent : List Msg) where
  pub record AppendFine (s : Spec) (l b : ℕ) (p : ℕ × Append) : Type 0 where
    pub epoch : epoch_of p.0 ≡ b
    pub above : 0 < esn_of p.0
    pub below : esn_of p.0 < last_esn
    pub appended : AppendedBy hs l p.0 p.1.payload
    pub votes : Voters s sent l p.0 b p.1.stored

  pub record AcksFine (r : Register) (q : Sequencer) : Type 0 where
    pub reached : Reached r q.log q.epoch
    pub spec : q.spec ≡ fixed_of c r q.log q.epoch
    pub kept : has_log c q.log ≡ true
    pub appends : (p : ℕ × Append) → In p q.appends → AppendFine q.spec q.log q.epoch p
    pub acked : (k : ℕ) → 0 < k → k ≤ q.lng → Acknowledged c hs sent r q.log (numbered q.epoch k)
    pub closed : q.lce ≤ lce_of r q.log

  acked_append : (r : Register) (s : Spec) (l b : ℕ) (p : ℕ × Append) → Reached r l b → s ≡ fixed_of c r l b → is_acked s p.1 ≡ true → AppendFine s l b p → Acknowledged c hs sent r l p.0
  acked_append r s l b p o q a f = record {
    reached = subst (Reached r l) (sym f.epoch) o;
    above = f.above;
    below = f.below;
    payload = p.1.payload;
    appended = f.appended;
    chosen = subst (λ k. Chosen (fixed_of c r l k) sent l p.0 k) (sym f.epoch) (subst (λ t. Chosen t sent l p.0 b) q (counted_votes s (tells_stored sent l p.0 b) p.1.stored f.votes (leb-true _ _ a)));
  }

  -- a node stored an append
  module _ (r : Register) (q : Sequencer) (A : AcksFine r q) (y n : ℕ) (p : Append) (f : find n q.appends ≡ Some p) (V : In y (nodes_of q.spec) × (tells_stored sent q.log n q.epoch y ≡ true)) where
    pub stored_fine : AppendFine q.spec q.log q.epoch (n, stored_at p y)
    stored_fine = let o = A.appends (n, p) (find_in n q.appends p f) in record { epoch = o.epoch; above = o.above; below = o.below; appended = o.appended; votes = one_voter q.spec (tells_stored sent q.log n q.epoch) y p.stored V.0 V.1 o.votes }

    put_fine : (x : ℕ × Append) → In x (put n (stored_at p y) q.appends) → AppendFine q.spec q.log q.epoch x
    put_fine x i = elim (In_put n (stored_at p y) q.appends x i) [ inl e ↦ subst (AppendFine q.spec q.log q.epoch) (sym e) stored_fine | inr j ↦ A.appends x j ]

    pub acks_fine : RowOf q → AcksFine r (with_append q.spec q n (stored_at p y))
    acks_fine R = record {
      reached = A.reached;
      spec = A.spec;
      kept = A.kept;
      appends = λ x i. put_fine x (unacked_in q.spec (put n (stored_at p y) q.appends) x i);
      acked = λ k lo hi. elim (cases_order k (q.lng + 1)) [
        | inl e ↦ newly k lo hi (omega arith)
        | inr (inl l) ↦ A.acked k lo (omega arith)
        | inr (inr l) ↦ newly k lo hi (omega arith)
      ];
      closed = A.closed;
    } where
      newly : (k : ℕ) → 0 < k → k ≤ q.lng + acked_first q.spec (put n (stored_at p y) q.appends) → q.lng + 1 ≤ k → Acknowledged c hs sent r q.log (numbered q.epoch k)
      newly k lo hi l = let t = put_in_row (numbered q.epoch (q.lng + 1)) n (stored_at p y) p q.appends R f in
          let z = acked_in_row q.spec (numbered q.epoch (q.lng + 1)) (put n (stored_at p y) q.appends) (numbered q.epoch k) t.row (omega arith) (omega arith) in
          subst (Acknowledged c hs sent r q.log) z.2 (acked_append r q.spec q.log q.epoch z.0 A.reached A.spec z.3 (put_fine z.0 z.1))

    -- an append that is acknowledged by it
    pub acks_now : is_acked q.spec (stored_at p y) ≡ true → Acknowledged c hs sent r q.log n
    acks_now a = acked_append r q.spec q.log q.epoch (n, stored_at p y) A.reached A.spec a stored_fine

  pub raised_fine : (r : Register) (q : Sequencer) → AcksFine r q → (x : ℕ × Append) → In x (raised q.spec q.appends) → AppendFine q.spec q.log q.epoch x
  raised_fine r q A x i = let z = raised_in q.spec q.appends x i in let f = A.appends z.0 z.1 in record {
    epoch = ap epoch_of z.2 ∙ f.epoch;
    above = subst (λ k. 0 < esn_of k) (sym z.2) f.above;
    below = subst (λ k. esn_of k < last_esn) (sym z.2) f.below;
    appended = subst (λ k. AppendedBy hs q.log k x.1.payload) (sym z.2) (subst (AppendedBy hs q.log z.0.0) (sym z.3) f.appended);
    votes = subst (λ k. Voters q.spec sent q.log k q.epoch x.1.stored) (sym z.2) (subst (Voters q.spec sent q.log z.0.0 q.epoch) (sym z.4) f.votes);
  }

  -- what is known good to it
  pub good_fine : (r : Register) (q : Sequencer) → AcksFine r q → LngFine c hs sent r q.log q.epoch q.lng
  good_fine r q A n e p l = subst (Acknowledged c hs sent r q.log) (let v : numbered q.epoch (esn_of n) ≡ n = omega arith in v) (A.acked (esn_of n) p l)

  -- what it released
  pub released_fine : (r : Register) (q : Sequencer) → AcksFine r q → next_esn q ≤ last_esn → ReleaseFine c hs sent r q.log (released_of q)
  released_fine r q A small = cond_both (nat_lt (q.lce + 1) q.epoch) (epoch_end q.lce) (numbered q.epoch q.lng) (ReleaseFine c hs sent r q.log)
      (λ t. let z = A.closed in record { acked = λ n e p l. absurd (omega arith); closed = omega arith })
      (λ t. let z = A.closed in let y = ltb-false _ _ t in record { acked = λ n e p l. subst (Acknowledged c hs sent r q.log) (let v : numbered q.epoch (esn_of n) ≡ n = omega arith in v) (A.acked (esn_of n) p (omega arith)); closed = omega arith })

-- while more happens
pub acks_later : (c : Config) (hs next : List Happened) (sent after : List Msg) (into : (m : Msg) → In m sent → In m after) (more : (l n : ℕ) (p : List ℕ) → AppendedBy hs l n p → AppendedBy next l n p)
    (r k : Register) → Up r k → Stays c r k → (acks : (l n : ℕ) → Acknowledged c hs sent r l n → Acknowledged c next after k l n) → (q : Sequencer) → AcksFine c hs sent r q → AcksFine c next after k q
acks_later c hs next sent after into more r k u y acks q A = record {
  reached = reached_later r k q.log q.epoch u A.reached;
  spec = A.spec ∙ sym (y.specs q.log q.epoch A.reached);
  kept = A.kept;
  appends = λ p i. let f = A.appends p i in record { epoch = f.epoch; above = f.above; below = f.below; appended = more q.log p.0 p.1.payload f.appended; votes = record { counted = f.votes.counted; stored = λ z h. tells_more sent after into q.log p.0 q.epoch z (f.votes.stored z h) } };
  acked = λ j a b. acks q.log (numbered q.epoch j) (A.acked j a b);
  closed = let z = (u q.log).1 in let w = A.closed in omega arith;
}
