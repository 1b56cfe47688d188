-- What a register tells of the epoch behind the last closed one is what its contents show.
use Rattle.std.proofs.Common.{◌≡◌, ◌⊎◌, inl, inr, ℕ, ◌+◌, ◌==◌, Bool, true, false, not, cond, Option, Some, None, Result, Ok, Err, IfSome, IsErrOf, if◌then◌else◌, refl, ap, sym, subst, ◌∙◌}
use Rattle.std.specs.Option.{unwrap_or}
use Rattle.ld_table.specs.Table.{find, put}
use Rattle.ld_table.proofs.Laws.{find-put_same}
use Rattle.ld_ids.specs.declared.set.Spec.{Spec}
use Rattle.ld_msg.specs.declared.msg.Summary.{Summary}
use Rattle.ld_msg.specs.Register.{Register, Epochs, Changed, Answer, Granted, AtLimit, Behind, Overtaken, Fails, is_overtaken, change, close, epochs_of, no_epochs, lce_of, with_epochs, closed_epochs, is_crowded, epoch_shown, look}
use Rattle.ld_register.specs.declared.fault.RegisterFault.{RegisterFault}
use Rattle.ld_register.specs.declared.fault.RegisterFault.TheVariants as registers
use Rattle.ld_register.specs.declared.register.View.{View}
use Rattle.ld_register.specs.Calls.{IsFree, close_ended, is_full, close_length, closed, looked, spec_told, next_told}
use Rattle.ld_register.proofs.Growing.{Same, by_test, change_granted}
use Rattle.ld_sequencer.specs.declared.close.Due.{Due}
use Rattle.ld_sequencer.specs.declared.close.Tried.{Tried}
use Rattle.ld_sequencer.specs.declared.close.Tried.TheVariants as tried
use Rattle.ld_sequencer.specs.declared.fault.CloseFault.TheVariants as unclosed
use Rattle.ld_sequencer.specs.Looks.{shows, AreAlike, IsShown}
use Rattle.ld_sequencer.specs.Register.{closes_due, left_by_due, answer_of, IsAnswer}

-- what was told, or else the first one
module _ (P : Spec → Type 0) (first : Spec) (f : P first) where
  fixed_or : (o : Option Spec) → IfSome o P → P (unwrap_or o first)
  fixed_or None h = f
  fixed_or (Some s) h = h

  pub fixed_is : (o : Option Spec) (s : Spec) → s ≡ unwrap_or o first → IfSome o P → P s
  fixed_is o s e h = subst P (sym e) (fixed_or o h)

-- ---- how a close ends ----

abbrev Ended : Type 0
Ended = Result (Option Spec) RegisterFault

abbrev as_ok : Option Spec → Ended
as_ok next = Ok next

abbrev as_err : RegisterFault → Ended
as_err f = Err f

ok_ended : (a : Answer) (full : Bool) (before after next : Option Spec) → as_ok next ≡ close_ended a full before after → (a ≡ Granted) × (after ≡ next)
ok_ended Granted full before after next h = (refl, cc)
ok_ended AtLimit full before after next h = absurd cc
ok_ended (Behind lce) full before after next h = absurd cc
ok_ended (Overtaken kept) full before after next h = absurd cc
ok_ended Fails true before after next h = absurd cc
ok_ended Fails false before after next h = absurd cc

behind_ended : (a : Answer) (full : Bool) (before after next : Option Spec) (lce : ℕ) → as_err (registers.Behind lce next) ≡ close_ended a full before after → (a ≡ Behind lce) × (before ≡ next)
behind_ended Granted full before after next lce h = absurd cc
behind_ended AtLimit full before after next lce h = absurd cc
behind_ended (Behind k) full before after next lce h = let q : as_err (registers.Behind lce next) ≡ as_err (registers.Behind k before) = h in (let e : k ≡ lce = cc in ap Behind e, cc)
behind_ended (Overtaken kept) full before after next lce h = absurd cc
behind_ended Fails true before after next lce h = absurd cc
behind_ended Fails false before after next lce h = absurd cc

overtaken_ended : (a : Answer) (full : Bool) (before after : Option Spec) (kept : ℕ) → as_err (registers.Overtaken kept) ≡ close_ended a full before after → a ≡ Overtaken kept
overtaken_ended Granted full before after kept h = absurd cc
overtaken_ended AtLimit full before after kept h = absurd cc
overtaken_ended (Behind lce) full before after kept h = absurd cc
overtaken_ended (Overtaken k) full before after kept h = let q : as_err (registers.Overtaken kept) ≡ as_err (registers.Overtaken k) = h in let e : k ≡ kept = cc in ap Overtaken e
overtaken_ended Fails true before after kept h = absurd cc
overtaken_ended Fails false before after kept h = absurd cc

failed_ended : (a : Answer) (full : Bool) (before after : Option Spec) → as_err registers.Failed ≡ close_ended a full before after → a ≡ Fails
failed_ended Granted full before after h = absurd cc
failed_ended AtLimit full before after h = absurd cc
failed_ended (Behind lce) full before after h = absurd cc
failed_ended (Overtaken kept) full before after h = absurd cc
failed_ended Fails full before after h = refl

full_ended : (a : Answer) (full : Bool) (before after : Option Spec) → as_err registers.Full ≡ close_ended a full before after → (a ≡ Fails) × (full ≡ true)
full_ended Granted full before after h = absurd cc
full_ended AtLimit full before after h = absurd cc
full_ended (Behind lce) full before after h = absurd cc
full_ended (Overtaken kept) full before after h = absurd cc
full_ended Fails true before after h = (refl, refl)
full_ended Fails false before after h = absurd cc

pub record IsEnded (c : Register) (l : ℕ) (t : Due) (res : Ended) : Type 0 where
  room : is_crowded c l ≡ false
  ends : res ≡ close_ended (closes_due c l t).answer (is_full c close_length) (next_told c l) (next_told (closes_due c l t).register l)
  after : left_by_due c l t ≡ (closes_due c l t).register

ended_by : (c : Register) (l : ℕ) (t : Due) (res : Ended) (b : Bool) → is_crowded c l ≡ b
    → res ≡ (if b then Err registers.LogLimit else close_ended (closes_due c l t).answer (is_full c close_length) (next_told c l) (next_told (if b then c else (closes_due c l t).register) l)) → (res ≡ Err registers.LogLimit) ⊎ IsEnded c l t res
ended_by c l t res true h k = inl k
ended_by c l t res false h k = inr (record { room = h; ends = k; after = ap (λ (b : Bool). if b then c else (closes_due c l t).register) h })

ended_or : (c : Register) (l : ℕ) (t : Due) (res : Ended) → res ≡ closed c l t.epoch t.summary t.short → (res ≡ Err registers.LogLimit) ⊎ IsEnded c l t res
ended_or c l t res h = ended_by c l t res (is_crowded c l) refl h

-- ---- what is told behind it ----

closed_granted : (c : Register) (l e : ℕ) (y : Summary) (short : Bool) → (close c l e y short).answer ≡ Granted → Same (with_epochs c l (closed_epochs (epochs_of c l) e y)) (close c l e y short).register
unfolding close
closed_granted c l e y short = by_test (not (lce_of c l + 1 == e)) _ _ (λ (d : Changed). d.answer ≡ Granted → Same (with_epochs c l (closed_epochs (epochs_of c l) e y)) d.register)
    (λ t h. absurd cc) (λ t. by_test (is_overtaken (epochs_of c l) y short) _ _ (λ (d : Changed). d.answer ≡ Granted → Same (with_epochs c l (closed_epochs (epochs_of c l) e y)) d.register)
    (λ o h. absurd cc) (λ o h. change_granted c (with_epochs c l (closed_epochs (epochs_of c l) e y)) 30 h))

pub written : (c d : Register) (l : ℕ) (x : Epochs) → d.logs ≡ put l x c.logs → epochs_of d l ≡ x
written c d l x h = ap (λ m. unwrap_or (find l m) no_epochs) h ∙ ap (λ o. unwrap_or o no_epochs) (find-put_same l l x c.logs refl)

told_closed : (c : Register) (l : ℕ) (t : Due) → (closes_due c l t).answer ≡ Granted → next_told (closes_due c l t).register l ≡ spec_told c l (t.epoch + 1)
told_closed c l t h = ap (λ (x : Epochs). find (epoch_shown x (x.lce + 1)) x.swapped) (written c (closes_due c l t).register l (closed_epochs (epochs_of c l) t.epoch t.summary) (closed_granted c l t.epoch t.summary t.short h).0)

isnt_behind : (f : Bool) (lce : ℕ) → cond f Fails Granted ≡ Behind lce → ⊥
isnt_behind true lce h = absurd cc
isnt_behind false lce h = absurd cc

behind_by : (c : Register) (l e lce : ℕ) (y : Summary) (short : Bool) → (close c l e y short).answer ≡ Behind lce → lce ≡ lce_of c l
unfolding close change
behind_by c l e lce y short = by_test (not (lce_of c l + 1 == e)) _ _ (λ (d : Changed). d.answer ≡ Behind lce → lce ≡ lce_of c l) (λ t h. cc)
    (λ t. by_test (is_overtaken (epochs_of c l) y short) _ _ (λ (d : Changed). d.answer ≡ Behind lce → lce ≡ lce_of c l) (λ o h. absurd cc) (λ o h. absurd (isnt_behind _ lce h)))

behind_at : (c : Register) (l lce : ℕ) (t : Due) → (closes_due c l t).answer ≡ Behind lce → lce ≡ lce_of c l
behind_at c l lce t h = behind_by c l t.epoch lce t.summary t.short h

-- ---- what was told is what the contents show ----

pub as_shown : (first : Spec) (c : Register) (l e : ℕ) (o : Option Spec) → o ≡ spec_told c l e → AreAlike (shows (unwrap_or o first)) (look first c l) e
unfolding look
as_shown first c l e o h = (refl, ap (λ (x : Option Spec). unwrap_or x first) h)

module _ (first : Spec) (c : Register) (l : ℕ) (t : Due) where
  taken_is : (next : Option Spec) → IsEnded c l t (Ok next) → IsAnswer first c l t (tried.Taken (unwrap_or next first))
  taken_is next d =
      let p = ok_ended (closes_due c l t).answer (is_full c close_length) (next_told c l) (next_told (closes_due c l t).register l) next d.ends in
      record { answer = sym p.0; next = as_shown first c l (t.epoch + 1) next (sym p.1 ∙ told_closed c l t p.0) }

  behind_is : (lce : ℕ) (next : Option Spec) → IsEnded c l t (Err (registers.Behind lce next)) → IsAnswer first c l t (tried.Behind lce (unwrap_or next first))
  behind_is lce next d =
      let p = behind_ended (closes_due c l t).answer (is_full c close_length) (next_told c l) (next_told (closes_due c l t).register l) next lce d.ends in
      record { answer = sym p.0; next = as_shown first c l (lce + 1) next (sym p.1 ∙ ap (λ (n : ℕ). spec_told c l (n + 1)) (sym (behind_at c l lce t p.0))) }

  overtaken_is : (kept : ℕ) → IsEnded c l t (Err (registers.Overtaken kept)) → IsAnswer first c l t (tried.Overtaken kept)
  overtaken_is kept d = record { answer = sym (overtaken_ended (closes_due c l t).answer (is_full c close_length) (next_told c l) (next_told (closes_due c l t).register l) kept d.ends); next = tt }

  failed_is : IsEnded c l t (Err registers.Failed) → IsAnswer first c l t (tried.Unclosed unclosed.Failed)
  failed_is d = record { answer = sym (failed_ended (closes_due c l t).answer (is_full c close_length) (next_told c l) (next_told (closes_due c l t).register l) d.ends); next = tt }

  full_is : IsEnded c l t (Err registers.Full) → IsAnswer first c l t (tried.Unclosed unclosed.Full)
  full_is d = record { answer = sym (full_ended (closes_due c l t).answer (is_full c close_length) (next_told c l) (next_told (closes_due c l t).register l) d.ends).0; next = tt }

  -- an answer of the register, as it is passed on
  abbrev pub IsPassed : Ended → Tried → Type 0
  IsPassed res d = IsEnded c l t res → IsAnswer first c l t d

  pub taken_as : (res : Ended) (next : Option Spec) (s : Spec) → res ≡ Ok next → s ≡ unwrap_or next first → IsPassed res (tried.Taken s)
  taken_as res next s h k d = subst (λ (x : Spec). IsAnswer first c l t (tried.Taken x)) (sym k) (taken_is next (subst (IsEnded c l t) h d))

  pub behind_as : (res : Ended) (lce : ℕ) (next : Option Spec) (s : Spec) → res ≡ Err (registers.Behind lce next) → s ≡ unwrap_or next first → IsPassed res (tried.Behind lce s)
  behind_as res lce next s h k d = subst (λ (x : Spec). IsAnswer first c l t (tried.Behind lce x)) (sym k) (behind_is lce next (subst (IsEnded c l t) h d))

  pub overtaken_as : (res : Ended) (kept : ℕ) → res ≡ Err (registers.Overtaken kept) → IsPassed res (tried.Overtaken kept)
  overtaken_as res kept h d = overtaken_is kept (subst (IsEnded c l t) h d)

  pub failed_as : (res : Ended) → res ≡ Err registers.Failed → IsPassed res (tried.Unclosed unclosed.Failed)
  failed_as res h d = failed_is (subst (IsEnded c l t) h d)

  pub full_as : (res : Ended) → res ≡ Err registers.Full → IsPassed res (tried.Unclosed unclosed.Full)
  full_as res h d = full_is (subst (IsEnded c l t) h d)

  module _ (K : Register → Type 0) (res : Ended) (d : Tried) (u : res ≡ Err registers.LogLimit → ⊥) (p : IsPassed res d) where
    answered_by : (res ≡ closed c l t.epoch t.summary t.short) × K (left_by_due c l t) → IsAnswer first c l t d × (is_crowded c l ≡ false) × K (closes_due c l t).register
    answered_by k = elim (ended_or c l t res k.0) [ inl x ↦ absurd (u x) | inr x ↦ (p x, x.room, subst K x.after k.1) ]

    pub passed_exact : (IsErrOf res registers.NoMemory × K c) ⊎ ((res ≡ closed c l t.epoch t.summary t.short) × K (left_by_due c l t)) → (IsErrOf res registers.NoMemory → ⊥) → IsAnswer first c l t d × (is_crowded c l ≡ false) × K (closes_due c l t).register
    passed_exact (inl k) n = absurd (n k.0)
    passed_exact (inr k) n = answered_by k

    pub passed_held : IsFree res ⊎ ((res ≡ closed c l t.epoch t.summary t.short) × K (left_by_due c l t)) → (IsFree res → answer_of d ≡ Fails) → (answer_of d ≡ Fails) ⊎ (IsAnswer first c l t d × K (closes_due c l t).register)
    passed_held (inl k) n = inl (n k)
    passed_held (inr k) n = let x = answered_by k in inr (x.0, x.2)

-- ---- a look ----

some_is : (epoch : Option ℕ) (n e : ℕ) → epoch ≡ Some n → epoch ≡ Some e → n ≡ e
some_is epoch n e h k = let q : Some n ≡ Some e = sym h ∙ k in cc

pub looked_is : (first : Spec) (c : Register) (l : ℕ) (epoch : Option ℕ) (n : ℕ) (v : View) (s : Spec) → epoch ≡ Some n → v ≡ looked c l n → s ≡ unwrap_or v.spec first → IsShown (look first c l) epoch s
looked_is first c l epoch n v s h k t = λ e q.
    let m = some_is epoch n e h q in
    subst (λ (x : Spec). AreAlike (shows x) (look first c l) e) (sym t) (as_shown first c l e v.spec (ap (λ (x : View). x.spec) k ∙ ap (spec_told c l) m))

-- ---- what isn't answered ----

pub ok_isnt : (res : Ended) (next : Option Spec) (f : RegisterFault) → res ≡ Ok next → res ≡ Err f → ⊥
ok_isnt res next f h k = let q : as_ok next ≡ as_err f = sym h ∙ k in cc

pub behind_isnt : (res : Ended) (lce : ℕ) (next : Option Spec) (f : RegisterFault) → (registers.Behind lce next ≡ f → ⊥) → res ≡ Err (registers.Behind lce next) → res ≡ Err f → ⊥
behind_isnt res lce next f n h k = let q : as_err (registers.Behind lce next) ≡ as_err f = sym h ∙ k in n cc

pub ok_free : (res : Ended) (next : Option Spec) → res ≡ Ok next → IsFree res → ⊥
ok_free res next h k = subst IsFree h k

pub behind_free : (res : Ended) (lce : ℕ) (next : Option Spec) → res ≡ Err (registers.Behind lce next) → IsFree res → ⊥
behind_free res lce next h k = subst IsFree h k

pub overtaken_isnt : (res : Ended) (kept : ℕ) (f : RegisterFault) → (registers.Overtaken kept ≡ f → ⊥) → res ≡ Err (registers.Overtaken kept) → res ≡ Err f → ⊥
overtaken_isnt res kept f n h k = let q : as_err (registers.Overtaken kept) ≡ as_err f = sym h ∙ k in n cc

pub overtaken_free : (res : Ended) (kept : ℕ) → res ≡ Err (registers.Overtaken kept) → IsFree res → ⊥
overtaken_free res kept h k = subst IsFree h k
