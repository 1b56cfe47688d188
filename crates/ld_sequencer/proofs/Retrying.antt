-- A retry: what its recovery does, and the stores of the own epoch behind it.
use Rattle.std.proofs.Common.{◌≡◌, ◌⊎◌, inl, inr, ℕ, ◌+◌, Bool, true, false, not, ◌||◌, ◌==◌, nat_le, List, [], ◌∷◌, ◌++◌, append-nil, Option, Some, None, is_some, Result, Ok, Err, IfOk, IfErr, OnOk, if◌then◌else◌, refl, ap, sym, subst, ◌∙◌}
use Rattle.std.proofs.lemmas.List.{append_assoc}
use Rattle.ld_ids.specs.declared.set.Spec.{Spec}
use Rattle.ld_msg.specs.declared.msg.Summary.{Summary}
use Rattle.ld_msg.specs.Digest.{Told, is_spent, plan}
use Rattle.ld_msg.specs.declared.msg.Msg.{Msg}
use Rattle.ld_msg.specs.declared.msg.Body.{Body}
use Rattle.ld_msg.specs.declared.msg.Who.TheVariants as whos
use Rattle.ld_msg.specs.Register.{Register, View, Answer, Granted, AtLimit, Behind, Overtaken, Fails, close}
use Rattle.ld_msg.specs.Sequencer.{Sequencer, Recovery, Stage, Seals, Stores, Closes, Storing, Attempt, Acts, called, does_nothing, after_close, preempt, goes_on, acted_messages, release_messages, looks_now, by_look, stores_plan, with_stores, closes_ready, is_fully_ready, is_ready_short, summary_of, with_stage, becomes, try_close, next_try, retries_recovery, retries_stage, retries_appends, on_retry, unless_preempted, item_stores, next_wave, recovery_of}
use Rattle.ld_register.specs.Calls.{ChangedOrNot}
use Rattle.ld_register.specs.Bounds.{IsSpecFor}
use Rattle.ld_sequencer.specs.Looks.{shows}
use Rattle.ld_sequencer.specs.Register.{after_tries}
use Rattle.ld_sequencer.specs.declared.report.Report.{Report}
use Rattle.ld_sequencer.specs.declared.fault.SequencerFault.{SequencerFault}
use Rattle.ld_sequencer.specs.Whole.{Whole, as_now, sent_as, with_recovery, looks_of, tried, tried_with, called_by, recovery_acts, retry_acts, raised_whole, pending_stores, AreShown, Acted, ActedBy, Unclosed, IsRefused, Unlooked}
use Rattle.ld_recovery.specs.Recovering.{digest_in}
use Rattle.ld_sequencer.proofs.Doing.{quiet_acted}
use Rattle.ld_sequencer.proofs.Alike.{are_shown}
use Rattle.ld_recovery.proofs.Posting.{posted-append}

-- ---- a preempted sequencer is still ----

still_if : (looks : ℕ → View) (q : Sequencer) (p : Option ℕ) → is_some p ≡ true → unless_preempted p (retries_recovery looks (retries_appends (does_nothing q)) q.recovery) (does_nothing q) ≡ does_nothing q
still_if looks q None h = absurd cc
still_if looks q (Some k) h = refl

still : (looks : ℕ → View) (w : Whole) → is_some w.sequencer.preempted ≡ true → retry_acts looks w ≡ does_nothing w.sequencer
unfolding on_retry
still looks w h = still_if looks w.sequencer w.sequencer.preempted h

module _ (w : Whole) (r : Report) (o : List Msg) (h : is_some w.sequencer.preempted ≡ true) (a : r.acked ≡ None) (c : r.closed ≡ None) (p : r.preempted ≡ None) (f : r.register ≡ None) (e : r.released ≡ None) where
  pub still_exact : (x : Register) (K : Register → Type 0) → K x → Acted w w r o o (called_by w x (retry_acts (looks_of w x) w)).acts × K (called_by w x (retry_acts (looks_of w x) w)).register
  still_exact x K k = subst (λ (z : Acts). Acted w w r o o (called_by w x z).acts × K (called_by w x z).register) (sym (still (looks_of w x) w h)) (quiet_acted w r o a c p f e, k)

  pub still_acted : (s : Spec) → IsSpecFor w.sequencer.log s → ActedBy w w r o o (λ looks. retry_acts looks w)
  still_acted s g = (shows s, are_shown w s g, Granted, subst (λ (z : Acts). Acted w w r o o (tried (shows s) z Granted)) (sym (still (shows s) w h)) (quiet_acted w r o a c p f e))

pub still_tries : (looks : ℕ → View) (w : Whole) → is_some w.sequencer.preempted ≡ true → (retry_acts looks w).tries ≡ []
still_tries looks w h = ap (λ (z : Acts). z.tries) (still looks w h)

pub still_room : (w : Whole) (x : Register) (Z : Type 0) → is_some w.sequencer.preempted ≡ true → ((retry_acts (looks_of w x) w).tries ≡ []) ⊎ Z
still_room w x Z h = inl (still_tries (looks_of w x) w h)

-- ---- stores that come last ----

abbrev pub more : Acts → List (ℕ × Body) → Acts
more a ss = with_stores ss a

more_if : (c : Bool) (a d : Acts) (ss : List (ℕ × Body)) → (if c then more a ss else more d ss) ≡ more (if c then a else d) ss
more_if true a d ss = refl
more_if false a d ss = refl

more_either : (c : Bool) (x y a d : Acts) (ss : List (ℕ × Body)) → x ≡ more a ss → y ≡ more d ss → (if c then x else y) ≡ more (if c then a else d) ss
more_either true x y a d ss h k = h
more_either false x y a d ss h k = k

-- none more
more_none : (a : Acts) (ss : List (ℕ × Body)) → more a ss ≡ more (more a []) ss
more_none a ss = ap (λ (bs : List (ℕ × Body)). record a { stores = bs ++ ss }) (sym (append-nil a.stores))

ready_more : (q : Sequencer) (v : Recovery) (g : Storing) (is ss : List (ℕ × Body)) → closes_ready (record (does_nothing q) { stores = is ++ ss }) v g ≡ more (closes_ready (record (does_nothing q) { stores = is ++ [] }) v g) ss
ready_more q v g is ss =
    let y = summary_of q.epoch g in let short = not (is_fully_ready v.spec g) in
    more_either (is_fully_ready v.spec g || is_ready_short v.spec v.lost g) _ _ _ _ ss
    (ap (λ (bs : List (ℕ × Body)). record (try_close (becomes (does_nothing q) (with_stage q v (Closes y short))) v.epoch y short) { stores = bs ++ ss }) (sym (append-nil is)))
    (ap (λ (bs : List (ℕ × Body)). record (becomes (does_nothing q) (with_stage q v (Stores g))) { stores = bs ++ ss }) (sym (append-nil is)))

stage_more : (looks : ℕ → View) (q : Sequencer) (v : Recovery) (ss : List (ℕ × Body)) (t : Stage) → retries_stage looks (record (does_nothing q) { stores = ss }) v t ≡ more (retries_stage looks (does_nothing q) v t) ss
stage_more looks q v ss (Seals d) = more_either (is_spent v.spec d) _ _ _ _ ss (more_none (looks_now looks (does_nothing q) v d) ss) refl
stage_more looks q v ss (Stores g) = ready_more q v (next_try g) (item_stores v.spec v.lost g.loss g.lng (next_wave g.wave) g.items) ss
stage_more looks q v ss (Closes y short) = refl

recovery_more : (looks : ℕ → View) (q : Sequencer) (v : Option Recovery) (ss : List (ℕ × Body)) → retries_recovery looks (record (does_nothing q) { stores = ss }) v ≡ more (retries_recovery looks (does_nothing q) v) ss
recovery_more looks q None ss = refl
recovery_more looks q (Some v) ss = stage_more looks q v ss v.stage

unless_none : (p : Option ℕ) (a d : Acts) → is_some p ≡ false → unless_preempted p a d ≡ a
unless_none None a d h = refl
unless_none (Some k) a d h = absurd cc

retry_is : (looks : ℕ → View) (w : Whole) → is_some w.sequencer.preempted ≡ false → retry_acts looks w ≡ more (recovery_acts looks (raised_whole w)) (pending_stores (raised_whole w))
unfolding on_retry
retry_is looks w h =
    unless_none w.sequencer.preempted (retries_recovery looks (retries_appends (does_nothing w.sequencer)) w.sequencer.recovery) (does_nothing w.sequencer) h
    ∙ recovery_more looks (raised_whole w).sequencer w.sequencer.recovery (pending_stores (raised_whole w))

after_more : (s : ℕ → View) (a : Acts) (ss : List (ℕ × Body)) (e : ℕ) (y : Summary) (d : Answer) → after_close s (more a ss) e y d ≡ more (after_close s a e y d) ss
unfolding after_close
after_more s a ss e y Granted = refl
after_more s a ss e y AtLimit = refl
after_more s a ss e y (Behind lce) = more_if (nat_le a.sequencer.epoch lce) (preempt a (lce + 1)) (goes_on s a lce) ss
after_more s a ss e y (Overtaken kept) = refl
after_more s a ss e y Fails = refl

pub tried_more : (s : ℕ → View) (a : Acts) (ss : List (ℕ × Body)) (d : Answer) (ts : List Attempt) → tried_with s (more a ss) d ts ≡ more (tried_with s a d ts) ss
tried_more s a ss d [] = refl
tried_more s a ss d (t ∷ ts) = after_more s a ss t.epoch t.summary d

pub called_more : (s : ℕ → View) (c : Register) (a : Acts) (ss : List (ℕ × Body)) (ts : List Attempt) → (called s c (more a ss) ts).acts ≡ more (called s c a ts).acts ss
called_more s c a ss [] = refl
called_more s c a ss (t ∷ ts) = after_more s a ss t.epoch t.summary (close c a.sequencer.log t.epoch t.summary t.short).answer

register_more : (s : ℕ → View) (c : Register) (a : Acts) (ss : List (ℕ × Body)) (ts : List Attempt) → (called s c (more a ss) ts).register ≡ (called s c a ts).register
register_more s c a ss [] = refl
register_more s c a ss (t ∷ ts) = refl

-- ---- the own epoch stays ----

abbrev Keeps : Sequencer → Sequencer → Type 0
Keeps q r = r ≡ record q { lce = r.lce; recovery = r.recovery; preempted = r.preempted }

keeps_if : (q : Sequencer) (c : Bool) (a d : Acts) → Keeps q a.sequencer → Keeps q d.sequencer → Keeps q (if c then a else d).sequencer
keeps_if q true a d h k = h
keeps_if q false a d h k = k

keeps_look : (looks : ℕ → View) (q : Sequencer) (v : Recovery) (d : List Told) (y : Option Summary) (k : ℕ) → Keeps q (by_look looks (does_nothing q) v d y k).sequencer
keeps_look looks q v d (Some y) k = refl
keeps_look looks q v d None k = keeps_if q (k == q.epoch) (stores_plan (does_nothing q) v (plan v.epoch true d)) (preempt (does_nothing q) k) refl refl

keeps_stage : (looks : ℕ → View) (q : Sequencer) (v : Recovery) (t : Stage) → Keeps q (retries_stage looks (does_nothing q) v t).sequencer
keeps_stage looks q v (Seals d) = keeps_if q (is_spent v.spec d) _ _ (keeps_look looks q v d (looks v.epoch).summary (looks v.epoch).epoch) refl
keeps_stage looks q v (Stores g) = keeps_if q (is_fully_ready v.spec (next_try g) || is_ready_short v.spec v.lost (next_try g)) _ _ refl refl
keeps_stage looks q v (Closes y short) = refl

keeps_recovery : (looks : ℕ → View) (q : Sequencer) (v : Option Recovery) → Keeps q (retries_recovery looks (does_nothing q) v).sequencer
keeps_recovery looks q None = refl
keeps_recovery looks q (Some v) = keeps_stage looks q v v.stage

keeps_on : (s : ℕ → View) (q : Sequencer) (a : Acts) (lce : ℕ) → Keeps q a.sequencer → Keeps q (goes_on s a lce).sequencer
keeps_on s q a lce k = ap (λ (z : Sequencer). record z { lce = lce; recovery = recovery_of s a.sequencer lce }) k

keeps_after : (s : ℕ → View) (q : Sequencer) (a : Acts) (e : ℕ) (y : Summary) (d : Answer) → Keeps q a.sequencer → Keeps q (after_close s a e y d).sequencer
unfolding after_close
keeps_after s q a e y Granted k = keeps_on s q a e k
keeps_after s q a e y AtLimit k = k
keeps_after s q a e y (Behind lce) k = keeps_if q (nat_le a.sequencer.epoch lce) (preempt a (lce + 1)) (goes_on s a lce) (ap (λ (z : Sequencer). record z { preempted = Some (lce + 1) }) k) (keeps_on s q a lce k)
keeps_after s q a e y (Overtaken kept) k = ap (λ (z : Sequencer). record z { preempted = Some kept }) k
keeps_after s q a e y Fails k = k

keeps_tried : (s : ℕ → View) (q : Sequencer) (a : Acts) (d : Answer) (ts : List Attempt) → Keeps q a.sequencer → Keeps q (tried_with s a d ts).sequencer
keeps_tried s q a d [] k = k
keeps_tried s q a d (t ∷ ts) k = keeps_after s q a t.epoch t.summary d k

keeps_called : (s : ℕ → View) (q : Sequencer) (c : Register) (a : Acts) (ts : List Attempt) → Keeps q a.sequencer → Keeps q (called s c a ts).acts.sequencer
keeps_called s q c a [] k = k
keeps_called s q c a (t ∷ ts) k = keeps_after s q a t.epoch t.summary (close c a.sequencer.log t.epoch t.summary t.short).answer k

keeps_acts : (looks : ℕ → View) (w : Whole) → Keeps w.sequencer (recovery_acts looks w).sequencer
keeps_acts looks w = keeps_recovery looks w.sequencer w.sequencer.recovery

pending_of : (w n : Whole) (q : Sequencer) → n ≡ as_now w q → Keeps w.sequencer q → sent_as n (pending_stores n) ≡ sent_as w (pending_stores w)
pending_of w n q h k = ap (λ (z : Whole). sent_as z (pending_stores z)) h ∙ ap (λ (z : Sequencer). sent_as (as_now w z) (pending_stores (as_now w z))) k

-- the messages of a call with stores behind it
messages_more : (q : Sequencer) (a : Acts) (ss : List (ℕ × Body)) → acted_messages q (more a ss) ≡ acted_messages q a ++ ss
messages_more q a ss =
    let ms : List (ℕ × Body) = release_messages q a.sequencer in
    sym (append_assoc a.cleans (ms ++ (a.asks ++ a.stores)) ss
    ∙ ap (λ (x : List (ℕ × Body)). a.cleans ++ x) (append_assoc ms (a.asks ++ a.stores) ss ∙ ap (λ (x : List (ℕ × Body)). ms ++ x) (append_assoc a.asks a.stores ss)))

-- behind messages of a sequencer others are sent
pub sent_then : (w : Whole) (o om on : List Msg) (bs ss : List (ℕ × Body)) → om ≡ o ++ sent_as w bs → on ≡ om ++ sent_as w ss → on ≡ o ++ sent_as w (bs ++ ss)
sent_then w o om on bs ss s t =
    t ∙ (ap (λ (x : List Msg). x ++ sent_as w ss) s
    ∙ (append_assoc o (sent_as w bs) (sent_as w ss)
    ∙ ap (λ (x : List Msg). o ++ x) (sym (posted-append (whos.Sequencer w.sequencer.epoch) w.sequencer.log bs ss))))

pub more_acted : (w n : Whole) (r : Report) (o om on : List Msg) (a : Acts) (ss : List (ℕ × Body)) → Acted w n r o om a → on ≡ om ++ sent_as w ss → Acted w n r o on (more a ss)
more_acted w n r o om on a ss h t = record {
  now = h.now;
  sent = sent_then w o om on (acted_messages w.sequencer a) ss h.sent t ∙ ap (λ (x : List (ℕ × Body)). o ++ sent_as w x) (sym (messages_more w.sequencer a ss));
  acked = h.acked;
  closed = h.closed;
  preempted = h.preempted;
  failed = h.failed;
  released = h.released;
}

sent_more : (w n : Whole) (o om on : List Msg) (a : Acts) → n ≡ as_now (raised_whole w) a.sequencer → Keeps (raised_whole w).sequencer a.sequencer → om ≡ o ++ sent_as (raised_whole w) (acted_messages (raised_whole w).sequencer a) → on ≡ om ++ sent_as n (pending_stores n)
    → on ≡ o ++ sent_as w (acted_messages w.sequencer (more a (pending_stores (raised_whole w))))
sent_more w n o om on a h k s t =
    let v = raised_whole w in let ss = pending_stores v in
    sent_then v o om on (acted_messages v.sequencer a) ss s (t ∙ ap (λ (x : List Msg). om ++ x) (pending_of v n a.sequencer h k))
    ∙ ap (λ (x : List (ℕ × Body)). o ++ sent_as w x) (sym (messages_more v.sequencer a ss))

acted_more : (w n : Whole) (r : Report) (o om on : List Msg) (a : Acts) → Keeps (raised_whole w).sequencer a.sequencer → Acted (raised_whole w) n r o om a → on ≡ om ++ sent_as n (pending_stores n) → Acted w n r o on (more a (pending_stores (raised_whole w)))
acted_more w n r o om on a k h t = record {
  now = h.now;
  sent = sent_more w n o om on a h.now k h.sent t;
  acked = h.acked;
  closed = h.closed;
  preempted = h.preempted;
  failed = h.failed;
  released = h.released;
}

-- ---- over the whole retry ----

called_then : (w n : Whole) (r : Report) (o om on : List Msg) (c : Register) (K : Register → Type 0) → is_some w.sequencer.preempted ≡ false → on ≡ om ++ sent_as n (pending_stores n)
    → Acted (raised_whole w) n r o om (called_by (raised_whole w) c (recovery_acts (looks_of w c) (raised_whole w))).acts × K (called_by (raised_whole w) c (recovery_acts (looks_of w c) (raised_whole w))).register
    → Acted w n r o on (called_by w c (retry_acts (looks_of w c) w)).acts × K (called_by w c (retry_acts (looks_of w c) w)).register
called_then w n r o om on c K p t h =
    let v = raised_whole w in let b = recovery_acts (looks_of w c) v in let ss = pending_stores v in
    subst (λ (z : Acts). Acted w n r o on (called_by w c z).acts × K (called_by w c z).register) (sym (retry_is (looks_of w c) w p)) (
      subst (Acted w n r o on) (sym (called_more (looks_of w c) c b ss b.tries)) (acted_more w n r o om on (called_by v c b).acts (keeps_called (looks_of w c) v.sequencer c b b.tries (keeps_acts (looks_of w c) v)) h.0 t),
      subst K (sym (register_more (looks_of w c) c b ss b.tries)) h.1,
    )

tried_then : (looks : ℕ → View) (w n : Whole) (r : Report) (o om on : List Msg) (d : Answer) → is_some w.sequencer.preempted ≡ false → on ≡ om ++ sent_as n (pending_stores n)
    → Acted (raised_whole w) n r o om (tried looks (recovery_acts looks (raised_whole w)) d) → Acted w n r o on (tried looks (retry_acts looks w) d)
tried_then looks w n r o om on d p t h =
    let v = raised_whole w in let b = recovery_acts looks v in let ss = pending_stores v in
    subst (λ (z : Acts). Acted w n r o on (tried looks z d)) (sym (retry_is looks w p))
    (subst (Acted w n r o on) (sym (tried_more looks b ss d b.tries)) (acted_more w n r o om on (tried looks b d) (keeps_tried looks v.sequencer b d b.tries (keeps_acts looks v)) h t))

held_then : (w n : Whole) (r : Report) (o om on : List Msg) (c : Register) (K : Register → Type 0) → is_some w.sequencer.preempted ≡ false → on ≡ om ++ sent_as n (pending_stores n)
    → (is_some r.register ≡ true) ⊎ (Acted (raised_whole w) n r o om (called_by (raised_whole w) c (recovery_acts (looks_of w c) (raised_whole w))).acts × K (called_by (raised_whole w) c (recovery_acts (looks_of w c) (raised_whole w))).register)
    → (is_some r.register ≡ true) ⊎ (Acted w n r o on (called_by w c (retry_acts (looks_of w c) w)).acts × K (called_by w c (retry_acts (looks_of w c) w)).register)
held_then w n r o om on c K p t (inl f) = inl f
held_then w n r o om on c K p t (inr h) = inr (called_then w n r o om on c K p t h)

refused_then : (looks : ℕ → View) (w n : Whole) (f : SequencerFault) (o om on : List Msg) → is_some w.sequencer.preempted ≡ false → on ≡ om ++ sent_as n (pending_stores n) → IsRefused (raised_whole w) n f o om (recovery_acts looks (raised_whole w)) → IsRefused w n f o on (retry_acts looks w)
refused_then looks w n f o om on p t (inl e) = inl e
refused_then looks w n f o om on p t (inr u) =
    let v = raised_whole w in let b = recovery_acts looks v in
    inr (subst (Unclosed w n f o on) (sym (retry_is looks w p)) (record { tries = u.tries; untimely = u.untimely; now = u.now; sent = sent_more w n o om on b u.now (keeps_acts looks v) u.sent t }))

-- ---- the register couldn't be looked at ----

unlooked_then : (w n : Whole) (f : SequencerFault) (o om on : List Msg) → is_some w.sequencer.preempted ≡ false → on ≡ om ++ sent_as n (pending_stores n)
    → Unlooked (raised_whole w) n f o om (raised_whole w).sequencer [] (λ looks. recovery_acts looks (raised_whole w)) → Unlooked w n f o on (raised_whole w).sequencer (pending_stores (raised_whole w)) (λ looks. retry_acts looks w)
unlooked_then w n f o om on p t u =
    let v = raised_whole w in let ss = pending_stores v in
    record {
      recovery = u.recovery;
      spent = u.spent;
      acts = λ looks. retry_is looks w p ∙ (ap (λ (a : Acts). more a ss) (u.acts looks) ∙ sym (more_none (looks_now looks (does_nothing v.sequencer) u.recovery (digest_in u.recovery.stage)) ss));
      free = u.free;
      now = u.now;
      sent = sent_then v o om on [] ss u.sent (t ∙ ap (λ (x : List Msg). om ++ x) (pending_of v n (with_recovery (Some u.recovery) v.sequencer) u.now refl));
    }

-- ---- as it is called ----

pub retry_exact : (w v n : Whole) (r : Result Report SequencerFault) (o om on : List Msg) (c : Register) (K : Register → Type 0) → raised_whole w ≡ v → is_some w.sequencer.preempted ≡ false → on ≡ om ++ sent_as n (pending_stores n)
    → IfOk r (λ report. Acted v n report o om (called_by v c (recovery_acts (looks_of v c) v)).acts × K (called_by v c (recovery_acts (looks_of v c) v)).register)
    → IfOk r (λ report. Acted w n report o on (called_by w c (retry_acts (looks_of w c) w)).acts × K (called_by w c (retry_acts (looks_of w c) w)).register)
retry_exact w v n (Ok x) o om on c K e p t h = called_then w n x o om on c K p t (subst (λ (z : Whole). Acted z n x o om (called_by z c (recovery_acts (looks_of z c) z)).acts × K (called_by z c (recovery_acts (looks_of z c) z)).register) (sym e) h)
retry_exact w v n (Err f) o om on c K e p t h = tt

shown_too : (w : Whole) (looks : ℕ → View) → AreShown (raised_whole w) looks → AreShown w looks
shown_too w looks h = record { specs = h.specs; summary = h.summary }

pub retry_acted : (w v n : Whole) (r : Result Report SequencerFault) (o om on : List Msg) → raised_whole w ≡ v → is_some w.sequencer.preempted ≡ false → on ≡ om ++ sent_as n (pending_stores n)
    → IfOk r (λ report. ActedBy v n report o om (λ looks. recovery_acts looks v)) → IfOk r (λ report. ActedBy w n report o on (λ looks. retry_acts looks w))
retry_acted w v n (Ok x) o om on e p t h = (
  h.0,
  shown_too w h.0 (subst (λ (z : Whole). AreShown z h.0) (sym e) h.1),
  h.2,
  tried_then h.0 w n x o om on h.2 p t (subst (λ (z : Whole). Acted z n x o om (tried h.0 (recovery_acts h.0 z) h.2)) (sym e) h.3),
)
retry_acted w v n (Err f) o om on e p t h = tt

pub retry_held : (w v n : Whole) (r : Result Report SequencerFault) (o om on : List Msg) (c : Register) (K : Register → Type 0) → raised_whole w ≡ v → is_some w.sequencer.preempted ≡ false → on ≡ om ++ sent_as n (pending_stores n)
    → IfOk r (λ report. (is_some report.register ≡ true) ⊎ (Acted v n report o om (called_by v c (recovery_acts (looks_of v c) v)).acts × K (called_by v c (recovery_acts (looks_of v c) v)).register))
    → IfOk r (λ report. (is_some report.register ≡ true) ⊎ (Acted w n report o on (called_by w c (retry_acts (looks_of w c) w)).acts × K (called_by w c (retry_acts (looks_of w c) w)).register))
retry_held w v n (Ok x) o om on c K e p t h = held_then w n x o om on c K p t (subst (λ (z : Whole). (is_some x.register ≡ true) ⊎ (Acted z n x o om (called_by z c (recovery_acts (looks_of z c) z)).acts × K (called_by z c (recovery_acts (looks_of z c) z)).register)) (sym e) h)
retry_held w v n (Err f) o om on c K e p t h = tt

abbrev pub RecoveryRefused : Whole → Whole → SequencerFault → List Msg → List Msg → Type 0
RecoveryRefused v n f o om = Unlooked v n f o om v.sequencer [] (λ looks. recovery_acts looks v) ⊎ ((looks : ℕ → View) → IsRefused v n f o om (recovery_acts looks v))

refused_or : (w n : Whole) (f : SequencerFault) (o om on : List Msg) → is_some w.sequencer.preempted ≡ false → on ≡ om ++ sent_as n (pending_stores n) → RecoveryRefused (raised_whole w) n f o om
    → Unlooked w n f o on (raised_whole w).sequencer (pending_stores (raised_whole w)) (λ looks. retry_acts looks w) ⊎ ((looks : ℕ → View) → IsRefused w n f o on (retry_acts looks w))
refused_or w n f o om on p t (inl u) = inl (unlooked_then w n f o om on p t u)
refused_or w n f o om on p t (inr h) = inr (λ looks. refused_then looks w n f o om on p t (h looks))

pub retry_refused : (w v n : Whole) (r : Result Report SequencerFault) (o om on : List Msg) → raised_whole w ≡ v → is_some w.sequencer.preempted ≡ false → on ≡ om ++ sent_as n (pending_stores n)
    → IfErr r (λ fault. RecoveryRefused v n fault o om)
    → IfErr r (λ fault. Unlooked w n fault o on (raised_whole w).sequencer (pending_stores (raised_whole w)) (λ looks. retry_acts looks w) ⊎ ((looks : ℕ → View) → IsRefused w n fault o on (retry_acts looks w)))
retry_refused w v n (Ok x) o om on e p t h = tt
retry_refused w v n (Err f) o om on e p t h = refused_or w n f o om on p t (subst (λ (z : Whole). RecoveryRefused z n f o om) (sym e) h)

pub retry_room : (w v : Whole) (r : Result Report SequencerFault) (c : Register) (Z : ℕ → Type 0) → raised_whole w ≡ v → is_some w.sequencer.preempted ≡ false → OnOk r (((recovery_acts (looks_of v c) v).tries ≡ []) ⊎ Z v.sequencer.log)
    → OnOk r (((retry_acts (looks_of w c) w).tries ≡ []) ⊎ Z w.sequencer.log)
retry_room w v (Ok x) c Z e p h = subst (λ (z : Acts). (z.tries ≡ []) ⊎ Z w.sequencer.log) (sym (retry_is (looks_of w c) w p)) (subst (λ (z : Whole). ((recovery_acts (looks_of z c) z).tries ≡ []) ⊎ Z z.sequencer.log) (sym e) h)
retry_room w v (Err f) c Z e p h = tt

pub retry_changed : (looks : ℕ → View) (w v : Whole) (P Q : Register → Type 0) → raised_whole w ≡ v → is_some w.sequencer.preempted ≡ false → ChangedOrNot P Q (λ c. after_tries c v.sequencer.log (recovery_acts looks v).tries) → ChangedOrNot P Q (λ c. after_tries c w.sequencer.log (retry_acts looks w).tries)
retry_changed looks w v P Q e p h = subst (λ (z : Acts). ChangedOrNot P Q (λ c. after_tries c w.sequencer.log z.tries)) (sym (retry_is looks w p)) (subst (λ (z : Whole). ChangedOrNot P Q (λ c. after_tries c z.sequencer.log (recovery_acts looks z).tries)) (sym e) h)
