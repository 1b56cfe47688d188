-- A retry of the recovery that doesn't look: what it asks comes behind the close that is due then.
use Rattle.std.proofs.Common.{◌≡◌, ◌≢◌, ◌⊎◌, inl, inr, ℕ, Bool, true, false, ◌||◌, List, [], ◌∷◌, ◌++◌, append-nil, Option, Some, None, is_some, Result, Ok, Err, IfOk, IfErr, OnOk, if◌then◌else◌, refl, ap, sym, subst, ◌∙◌}
use Rattle.ld_ids.specs.declared.set.Spec.{Spec}
use Rattle.ld_msg.specs.declared.msg.Msg.{Msg}
use Rattle.ld_msg.specs.declared.msg.Body.{Body}
use Rattle.ld_msg.specs.Digest.{is_spent}
use Rattle.ld_msg.specs.Register.{Register, View, Answer, close}
use Rattle.ld_msg.specs.Sequencer.{Sequencer, Recovery, Stage, Seals, Stores, Closes, Attempt, Acts, called, does_nothing, acted_messages, release_messages, is_fully_ready, is_ready_short, next_try, retries_recovery, retries_stage}
use Rattle.ld_recovery.specs.Recovering.{is_spent_stage}
use Rattle.ld_register.specs.declared.fault.RegisterFault.TheVariants as registers
use Rattle.ld_register.specs.Calls.{ChangedOrNot}
use Rattle.ld_register.specs.Bounds.{IsSpecFor}
use Rattle.ld_sequencer.specs.Looks.{shows}
use Rattle.ld_sequencer.specs.Register.{after_tries}
use Rattle.ld_sequencer.specs.declared.report.Report.{Report}
use Rattle.ld_sequencer.specs.declared.fault.SequencerFault.{SequencerFault}
use Rattle.ld_sequencer.specs.declared.fault.SequencerFault.TheVariants as faults
use Rattle.ld_sequencer.specs.Whole.{Whole, as_now, sent_as, with_recovery, closing_in, attempts, due_acts, is_spent_now, is_spent_recovery, looks_of, tried, tried_with, called_by, recovery_acts, Acted, ActedBy, IsCaused, IsUntimely, IsRefused}
use Rattle.ld_sequencer.proofs.Doing.{same_quiet}
use Rattle.ld_sequencer.proofs.Alike.{are_shown}
use Rattle.ld_sequencer.proofs.Closing.{called_still, tried_still, from_now}
use Rattle.ld_sequencer.proofs.Retrying.{more, called_more, tried_more, sent_then, more_acted, RecoveryRefused}

record IsAsking (q : Sequencer) (a : Acts) : Type 0 where
  rest : a ≡ record (does_nothing (with_recovery a.sequencer.recovery q)) { tries = a.tries; asks = a.asks; stores = a.stores }
  due : a.tries ≡ attempts (closing_in a.sequencer.recovery)
  alone : (a.tries ≡ []) ⊎ (a.asks ≡ [])

asking_unspent : (q : Sequencer) (c : Bool) (a d : Acts) → c ≡ false → IsAsking q d → IsAsking q (if c then a else d)
asking_unspent q true a d h k = absurd cc
asking_unspent q false a d h k = k

asking_either : (q : Sequencer) (c : Bool) (a d : Acts) → IsAsking q a → IsAsking q d → IsAsking q (if c then a else d)
asking_either q true a d h k = h
asking_either q false a d h k = k

asking_at : (looks : ℕ → View) (q : Sequencer) (v : Recovery) (t : Stage) → q.recovery ≡ Some v → v.stage ≡ t → is_spent_stage v.spec t ≡ false → IsAsking q (retries_stage looks (does_nothing q) v t)
asking_at looks q v (Seals d) e k h = asking_unspent q (is_spent v.spec d) _ _ h (record { rest = refl; due = refl; alone = inl refl })
asking_at looks q v (Stores g) e k h = asking_either q (is_fully_ready v.spec (next_try g) || is_ready_short v.spec v.lost (next_try g)) _ _ (record { rest = refl; due = refl; alone = inr refl }) (record { rest = refl; due = refl; alone = inr refl })
asking_at looks q v (Closes y short) e k h = record {
  rest = refl;
  due = sym (ap (λ (m : Option Recovery). attempts (closing_in m)) (e ∙ ap (λ (t : Stage). Some (record v { stage = t })) k));
  alone = inr refl;
}

asking_in : (looks : ℕ → View) (q : Sequencer) (m : Option Recovery) → q.recovery ≡ m → is_spent_recovery m ≡ false → IsAsking q (retries_recovery looks (does_nothing q) m)
asking_in looks q None e h = record { rest = refl; due = sym (ap (λ (m : Option Recovery). attempts (closing_in m)) e); alone = inl refl }
asking_in looks q (Some v) e h = asking_at looks q v v.stage e refl h

asking : (looks : ℕ → View) (w : Whole) → is_spent_now w ≡ false → IsAsking w.sequencer (recovery_acts looks w)
asking looks w h = asking_in looks w.sequencer w.sequencer.recovery refl h

-- with the sequencer as it is then, and with what was sent
module _ (w mid : Whole) (a : Acts) (p : IsAsking w.sequencer a) (h : mid ≡ as_now w a.sequencer) where
  held_mid : mid ≡ as_now w (with_recovery a.sequencer.recovery w.sequencer)
  held_mid = h ∙ ap (λ (x : Acts). as_now w x.sequencer) p.rest

  due_mid : due_acts mid ≡ record (does_nothing (with_recovery a.sequencer.recovery w.sequencer)) { tries = a.tries }
  due_mid = ap due_acts held_mid ∙ ap (λ (ts : List Attempt). record (does_nothing (with_recovery a.sequencer.recovery w.sequencer)) { tries = ts }) (sym p.due)

  -- where it tries a close, it asks nothing
  asks_none : a.asks ≡ [] → more (record (does_nothing (with_recovery a.sequencer.recovery w.sequencer)) { tries = a.tries }) a.stores ≡ a
  asks_none e = ap (λ (bs : List (ℕ × Body)). record (does_nothing (with_recovery a.sequencer.recovery w.sequencer)) { tries = a.tries; asks = bs; stores = a.stores }) (sym e) ∙ sym p.rest

  tries_none : a.tries ≡ [] → due_acts mid ≡ does_nothing (with_recovery a.sequencer.recovery w.sequencer)
  tries_none e = due_mid ∙ ap (λ (ts : List Attempt). record (does_nothing (with_recovery a.sequencer.recovery w.sequencer)) { tries = ts }) e

  -- as if the call began here
  back : (n : Whole) (r : Report) (o om : List Msg) (x : Acts) → Acted mid n r o om x → Acted w n r o om x
  back n r o om x k = from_now w n a.sequencer.recovery r o om x (subst (λ (z : Whole). Acted z n r o om x) held_mid k)

  asked_only : (n : Whole) (r : Report) (o om on : List Msg) → a.tries ≡ [] → Acted mid n r o om (does_nothing (with_recovery a.sequencer.recovery w.sequencer)) → on ≡ om ++ sent_as w (a.asks ++ a.stores) → Acted w n r o on a
  asked_only n r o om on e k t =
      let b = back n r o om (does_nothing (with_recovery a.sequencer.recovery w.sequencer)) k in
      let q = with_recovery a.sequencer.recovery w.sequencer in
      subst (Acted w n r o on) (ap (λ (ts : List Attempt). record (does_nothing q) { tries = ts; asks = a.asks; stores = a.stores }) (sym e) ∙ sym p.rest) (record {
        now = b.now;
        sent = sent_then w o om on (release_messages w.sequencer q ++ []) (a.asks ++ a.stores) b.sent t
            ∙ ap (λ (x : List (ℕ × Body)). o ++ sent_as w (x ++ (a.asks ++ a.stores))) (append-nil (release_messages w.sequencer q));
        acked = b.acked;
        closed = b.closed;
        preempted = b.preempted;
        failed = b.failed;
        released = b.released;
      })

  -- by whatever answers to the close
  then_acts : (f : Acts → Acts) → ((x : Acts) → x.tries ≡ [] → f x ≡ x) → ((x : Acts) (ss : List (ℕ × Body)) → f (more x ss) ≡ more (f x) ss) → (n : Whole) (r : Report) (o om on : List Msg)
      → on ≡ om ++ sent_as w (a.asks ++ a.stores) → Acted mid n r o om (f (due_acts mid)) → Acted w n r o on (f a)
  then_acts f still_f more_f n r o om on t k = elim p.alone [
    | inl e ↦
        let q = with_recovery a.sequencer.recovery w.sequencer in
        subst (Acted w n r o on) (sym (still_f a e)) (asked_only n r o om on e (subst (Acted mid n r o om) (ap f (tries_none e) ∙ still_f (does_nothing q) refl) k) t)
    | inr e ↦
        let x : Acts = record (does_nothing (with_recovery a.sequencer.recovery w.sequencer)) { tries = a.tries } in
        subst (Acted w n r o on) (sym (more_f x a.stores) ∙ ap f (asks_none e)) (more_acted w n r o om on (f x) a.stores
        (back n r o om (f x) (subst (Acted mid n r o om) (ap f due_mid) k)) (t ∙ ap (λ (bs : List (ℕ × Body)). om ++ sent_as w (bs ++ a.stores)) e))
  ]

  mid_looks : (c : Register) → looks_of mid c ≡ looks_of w c
  mid_looks c = ap (λ (z : Whole). looks_of z c) held_mid

-- what the close leaves of the register, by what it tries
abbrev left_by : Register → ℕ → List Attempt → Register
left_by c log [] = c
left_by c log (t ∷ ts) = (close c log t.epoch t.summary t.short).register

called_leaves : (s : ℕ → View) (c : Register) (a : Acts) (ts : List Attempt) → (called s c a ts).register ≡ left_by c a.sequencer.log ts
called_leaves s c a [] = refl
called_leaves s c a (t ∷ ts) = refl

-- ---- as it is called ----

module _ (w mid : Whole) (e sends : List Msg) (u : is_spent_now w ≡ false) (h : (looks : ℕ → View) → mid ≡ as_now w (recovery_acts looks w).sequencer) (z : e ≡ []) (s : (looks : ℕ → View) → sends ≡ e ++ sent_as w ((recovery_acts looks w).asks ++ (recovery_acts looks w).stores)) where
  behind : (looks : ℕ → View) (om on : List Msg) → on ≡ om ++ sends → on ≡ om ++ sent_as w ((recovery_acts looks w).asks ++ (recovery_acts looks w).stores)
  behind looks om on t = t ∙ ap (λ (x : List Msg). om ++ x) (s looks ∙ ap (λ (x : List Msg). x ++ sent_as w ((recovery_acts looks w).asks ++ (recovery_acts looks w).stores)) z)

  p : (looks : ℕ → View) → IsAsking w.sequencer (recovery_acts looks w)
  p looks = asking looks w u

  called_here : (n : Whole) (r : Report) (o om on : List Msg) (c : Register) → on ≡ om ++ sends → Acted mid n r o om (called_by mid c (due_acts mid)).acts → Acted w n r o on (called_by w c (recovery_acts (looks_of w c) w)).acts
  called_here n r o om on c t k =
      let looks = looks_of w c in let a = recovery_acts looks w in
      then_acts w mid a (p looks) (h looks) (λ x. (called looks c x x.tries).acts) (λ x i. called_still looks c x x.tries i) (λ x ss. called_more looks c x ss x.tries) n r o om on (behind looks om on t)
      (subst (λ (l : ℕ → View). Acted mid n r o om (called l c (due_acts mid) (due_acts mid).tries).acts) (mid_looks w mid a (p looks) (h looks) c) k)

  left_here : (looks : ℕ → View) (c : Register) (K : Register → Type 0) → K (called_by mid c (due_acts mid)).register → K (called_by w c (recovery_acts looks w)).register
  left_here looks c K k =
      let a = recovery_acts looks w in
      let d = due_mid w mid a (p looks) (h looks) in
      let one : (called_by mid c (due_acts mid)).register ≡ left_by c w.sequencer.log a.tries = called_leaves (looks_of mid c) c (due_acts mid) (due_acts mid).tries ∙ ap (λ (x : Acts). left_by c x.sequencer.log x.tries) d in
      let two : (called_by w c a).register ≡ left_by c w.sequencer.log a.tries = called_leaves (looks_of w c) c a a.tries ∙ ap (λ (x : Acts). left_by c x.sequencer.log a.tries) (p looks).rest in
      subst K (one ∙ sym two) k

  pub recovery_exact : (n : Whole) (r : Result Report SequencerFault) (o om on : List Msg) (c : Register) (K : Register → Type 0) → on ≡ om ++ sends
      → IfOk r (λ report. Acted mid n report o om (called_by mid c (due_acts mid)).acts × K (called_by mid c (due_acts mid)).register)
      → IfOk r (λ report. Acted w n report o on (called_by w c (recovery_acts (looks_of w c) w)).acts × K (called_by w c (recovery_acts (looks_of w c) w)).register)
  recovery_exact n (Ok x) o om on c K t k = (called_here n x o om on c t k.0, left_here (looks_of w c) c K k.1)
  recovery_exact n (Err f) o om on c K t k = tt

  held_or : (n : Whole) (r : Report) (o om on : List Msg) (c : Register) (K : Register → Type 0) → on ≡ om ++ sends
      → (is_some r.register ≡ true) ⊎ (Acted mid n r o om (called_by mid c (due_acts mid)).acts × K (called_by mid c (due_acts mid)).register)
      → (is_some r.register ≡ true) ⊎ (Acted w n r o on (called_by w c (recovery_acts (looks_of w c) w)).acts × K (called_by w c (recovery_acts (looks_of w c) w)).register)
  held_or n r o om on c K t (inl f) = inl f
  held_or n r o om on c K t (inr k) = inr (called_here n r o om on c t k.0, left_here (looks_of w c) c K k.1)

  pub recovery_held : (n : Whole) (r : Result Report SequencerFault) (o om on : List Msg) (c : Register) (K : Register → Type 0) → on ≡ om ++ sends
      → IfOk r (λ report. (is_some report.register ≡ true) ⊎ (Acted mid n report o om (called_by mid c (due_acts mid)).acts × K (called_by mid c (due_acts mid)).register))
      → IfOk r (λ report. (is_some report.register ≡ true) ⊎ (Acted w n report o on (called_by w c (recovery_acts (looks_of w c) w)).acts × K (called_by w c (recovery_acts (looks_of w c) w)).register))
  recovery_held n (Ok x) o om on c K t k = held_or n x o om on c K t k
  recovery_held n (Err f) o om on c K t k = tt

  of_log : (looks : ℕ → View) (F : ℕ → Type 0) → F mid.sequencer.log → F w.sequencer.log
  of_log looks F k = subst (λ (x : Whole). F x.sequencer.log) (held_mid w mid (recovery_acts looks w) (p looks) (h looks)) k

  pub recovery_acted : (n : Whole) (r : Result Report SequencerFault) (o om on : List Msg) → on ≡ om ++ sends
      → IfOk r (λ report. (s : Spec) × IsSpecFor mid.sequencer.log s × (d : Answer) × Acted mid n report o om (tried (shows s) (due_acts mid) d)) → IfOk r (λ report. ActedBy w n report o on (λ looks. recovery_acts looks w))
  recovery_acted n (Ok x) o om on t k =
      let looks = shows k.0 in let a = recovery_acts looks w in (
        looks,
        are_shown w k.0 (of_log looks (λ l. IsSpecFor l k.0) k.1),
        k.2,
        then_acts w mid a (p looks) (h looks) (λ x. tried_with looks x k.2 x.tries) (λ x i. tried_still looks x k.2 x.tries i) (λ x ss. tried_more looks x ss k.2 x.tries) n x o om on (behind looks om on t) k.3,
      )
  recovery_acted n (Err f) o om on t k = tt

  same_tries : (looks : ℕ → View) → (due_acts mid).tries ≡ (recovery_acts looks w).tries
  same_tries looks = ap (λ (x : Acts). x.tries) (due_mid w mid (recovery_acts looks w) (p looks) (h looks))

  -- what is sent where a close isn't made
  all_sent : (looks : ℕ → View) (o om on : List Msg) → om ≡ o → on ≡ om ++ sends → on ≡ o ++ sent_as w (acted_messages w.sequencer (recovery_acts looks w))
  all_sent looks o om on i t =
      let a = recovery_acts looks w in let q = with_recovery a.sequencer.recovery w.sequencer in
      behind looks om on t
      ∙ (ap (λ (x : List Msg). x ++ sent_as w (a.asks ++ a.stores)) i
      ∙ ap (λ (x : List (ℕ × Body)). o ++ sent_as w x) (sym (ap (acted_messages w.sequencer) (p looks).rest ∙ ap (λ (x : List (ℕ × Body)). x ++ (a.asks ++ a.stores)) (same_quiet w.sequencer q refl))))

  refused_here : (n : Whole) (f : SequencerFault) (o om on : List Msg) → on ≡ om ++ sends → (f ≡ faults.NoMemory) ⊎ (IsUntimely f × ((due_acts mid).tries ≢ []) × (n ≡ mid) × (om ≡ o)) → (looks : ℕ → View) → IsRefused w n f o on (recovery_acts looks w)
  refused_here n f o om on t (inl k) looks = inl k
  refused_here n f o om on t (inr k) looks = inr (record { tries = λ i. k.1 (same_tries looks ∙ i); untimely = k.0; now = k.2 ∙ h looks; sent = all_sent looks o om on k.3 t })

  pub recovery_refused : (n : Whole) (r : Result Report SequencerFault) (o om on : List Msg) → on ≡ om ++ sends
      → IfErr r (λ fault. (fault ≡ faults.NoMemory) ⊎ (IsUntimely fault × ((due_acts mid).tries ≢ []) × (n ≡ mid) × (om ≡ o))) → IfErr r (λ fault. RecoveryRefused w n fault o on)
  recovery_refused n (Ok x) o om on t k = tt
  recovery_refused n (Err f) o om on t k = inr (refused_here n f o om on t k)

  pub recovery_room : (r : Result Report SequencerFault) (c : Register) (F : ℕ → Type 0) → OnOk r (((due_acts mid).tries ≡ []) ⊎ F mid.sequencer.log) → OnOk r (((recovery_acts (looks_of w c) w).tries ≡ []) ⊎ F w.sequencer.log)
  recovery_room (Ok x) c F k = elim k [ inl i ↦ inl (sym (same_tries (looks_of w c)) ∙ i) | inr i ↦ inr (of_log (looks_of w c) F i) ]
  recovery_room (Err f) c F k = tt

  pub recovery_changed : (looks : ℕ → View) (P Q : Register → Type 0) → ChangedOrNot P Q (λ c. after_tries c mid.sequencer.log (due_acts mid).tries) → ChangedOrNot P Q (λ c. after_tries c w.sequencer.log (recovery_acts looks w).tries)
  recovery_changed looks P Q k =
      subst (λ (ts : List Attempt). ChangedOrNot P Q (λ c. after_tries c w.sequencer.log ts)) (same_tries looks) (of_log looks (λ l. ChangedOrNot P Q (λ c. after_tries c l (due_acts mid).tries)) k)

  -- what is caused for the log
  pub recovery_log : (F : ℕ → Type 0) → F mid.sequencer.log → F w.sequencer.log
  recovery_log F k = of_log (shows w.origin.first) F k

  pub recovery_caused : (r : Result Report SequencerFault) (holds : Register → Type 0) (damaged : ℕ → Type 0) → IfErr r (IsCaused holds damaged mid.sequencer.log) → IfErr r (λ fault. (fault ≡ faults.Register registers.Failed) ⊎ IsCaused holds damaged w.sequencer.log fault)
  recovery_caused (Ok x) holds damaged k = tt
  recovery_caused (Err f) holds damaged k = inr (recovery_log (λ l. IsCaused holds damaged l f) k)
