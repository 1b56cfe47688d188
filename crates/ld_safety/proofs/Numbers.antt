-- The numbers of a sequencer's appends rise, and two appends of a log don't share one.
use Rattle.std.proofs.Common.{◌≡◌, ◌∙◌, ◌⊎◌, ◌≤◌, ◌<◌, ℕ, ◌+◌, inl, inr, refl, ap, sym, subst, Bool, true, false, ◌&&◌, cond, List, [], ◌∷◌, ◌++◌, length, length-append, Option, Some, None, arith, slice_get, nat_lt, ◌==◌}
use Rattle.ld_op.specs.Handles.{answer_message}
use Rattle.std.proofs.lemmas.Bool.{and_parts, cases_order, eqb-false}
use Rattle.ld_table.specs.Named.{same, find_named, put_named}
use Rattle.ld_table.specs.Words.{or_else, any_of}
use Rattle.ld_table.proofs.NameLaws.{same-true, same-self}
use Rattle.ld_lsn.specs.Number.{numbered, last_esn}
use Rattle.ld_schedule.specs.declared.event.Event.{Event}
use Rattle.ld_schedule.specs.declared.event.Event.TheVariants as events
use Rattle.ld_transcript.specs.declared.line.Line.{Line}
use Rattle.ld_transcript.specs.declared.line.Line.TheVariants as lines
use Rattle.ld_msg.specs.declared.msg.Msg.{Msg}
use Rattle.ld_config.specs.declared.config.Config.{Config}
use Rattle.ld_op.specs.declared.op.Op.{Op}
use Rattle.ld_op.specs.declared.op.Op.TheVariants as ops
use Rattle.ld_op.specs.Ticks.{Ticked, Cleans, Rebuilt, Asks, Nothing}
use Rattle.ld_msg.specs.declared.msg.Body.{Body}
use Rattle.ld_machine.specs.Config.{looks_at}
use Rattle.ld_msg.specs.Reader.{on_answer}
use Rattle.std.specs.Option.{unwrap_or}
use Rattle.ld_table.specs.Table.{find}
use Rattle.ld_ids.specs.declared.set.Spec.{Spec}
use Rattle.ld_msg.specs.declared.msg.Summary.{Summary}
use Rattle.ld_msg.specs.Register.{swap, swapped_epochs, Register, View, Changed, Epochs, epoch_limit, no_epochs, next_epoch, closed_epochs, with_epochs, close, epochs_of, generation_of, epochs_in, activate, draw, lce_of}
use Rattle.ld_machine.specs.Disk.{Node, keep_end}
use Rattle.ld_msg.specs.Sequencer.{Called, Sequencer, Acts, Appending, TooLong, EpochFull, Numbered, or_preempted, payload_limit, appending, appended, fresh_append, next_esn, activated, on_reply, on_retry, called, Attempt}
use Rattle.ld_machine.specs.State.{State, Done, finish, node_at, with_node, with_register}
use Rattle.ld_machine.specs.Facts.{Happened, Writes, Appends, sequencer_log, log_activated, activates_name, AsksToAppend}
use Rattle.ld_machine.specs.Safe.{NumbersRise, NumbersDiffer}
use Rattle.ld_machine.specs.World.{World, In}
use Rattle.ld_machine.specs.Run.{history}
use Rattle.ld_machine.specs.Step as Step
use Rattle.ld_safety.proofs.Lists.{branch, first_grows, or_else_some, or_else_none, or_else_new, Some_inj, not_none, cond_both, slice_get_below, any_in, any_from}
use Rattle.ld_safety.proofs.Names.{named_cases}
use Rattle.ld_safety.proofs.Traces.{Keeps, at_end}
use Rattle.ld_safety.proofs.Events.{reply_call, retry_call, announced, NamesOnce, Cases, refreshed, loaded, is_quiet}
use Rattle.ld_safety.proofs.Steps.{told, became, writes_cases, finish_In}
use Rattle.ld_safety.proofs.NamesKept.{with_names}
use Rattle.ld_safety.proofs.Lines.{Group, OfNodes, OfNumbers, OfActs, OfTrims, OfSets, OfItems, AllOf, none_of, one_of, kept_of, format_of, acted_of, items_of, quiet_of, line_of}
use Rattle.ld_safety.proofs.Appends.{RowOf, Continues, row_end}
use Rattle.ld_safety.proofs.Continues.{stays_same, reply_continues, retry_continues}
use Rattle.ld_safety.proofs.RegisterSteps.{Same, Advanced, activate_granted, activate_leaves, close_leaves, draw_leaves, swap_leaves, epochs_put, epochs_same}
use Rattle.ld_batch.specs.Batch.{packed}
use Rattle.ld_machine.specs.Calm.{Move, Takes, event_of}

-- ---- what the steps say of a name ----

pub record Counts (hs : List Happened) (s : List ℕ) (q : Sequencer) : Type 0 where
  pub known : sequencer_log s hs ≡ Some q.log
  pub small : next_esn q ≤ last_esn
  pub row : RowOf q
  pub below : (n k : ℕ) → Writes hs k (lines.Appended s n) → (numbered q.epoch 1 ≤ n) × (n < numbered q.epoch (next_esn q))
  pub rises : (n m j k : ℕ) → Writes hs j (lines.Appended s n) → Writes hs k (lines.Appended s m) → j < k → n < m

pub record Unknown (hs : List Happened) (s : List ℕ) : Type 0 where
  pub unknown : sequencer_log s hs ≡ None
  pub silent : (n k : ℕ) → Writes hs k (lines.Appended s n) → ⊥

abbrev pub CountedBy : List Happened → List ℕ → Option Sequencer → Type 0
CountedBy hs s None = Unknown hs s
CountedBy hs s (Some q) = Counts hs s q

-- sequencers have epochs that were handed out, none twice
pub record Epochs_once (m : List (List ℕ × Sequencer)) (r : Register) : Type 0 where
  pub limit : (l : ℕ) → (epochs_of r l).epoch ≤ epoch_limit
  pub drawn : (s : List ℕ) (q : Sequencer) → find_named s m ≡ Some q → q.epoch ≤ (epochs_of r q.log).epoch
  pub positive : (s : List ℕ) (q : Sequencer) → find_named s m ≡ Some q → 0 < q.epoch
  pub once : (s t : List ℕ) (q p : Sequencer) → find_named s m ≡ Some q → find_named t m ≡ Some p → q.log ≡ p.log → q.epoch ≡ p.epoch → s ≡ t

pub record CountsOf (hs : List Happened) (m : List (List ℕ × Sequencer)) (r : Register) : Type 0 where
  pub counted : (s : List ℕ) → CountedBy hs s (find_named s m)
  pub epochs : Epochs_once m r

abbrev pub AllCounts : List Happened → World → Type 0
AllCounts hs w = CountsOf hs w.state.sequencers w.state.register

-- ---- a step that says nothing of a name ----

-- no line tells of a sequencer's start or append under this name
abbrev Says_nothing : List ℕ → List Line → Type 0
Says_nothing s ls = ((e : ℕ) → In (lines.Active s e) ls → ⊥) × ((n : ℕ) → In (lines.Appended s n) ls → ⊥)

groups_apart : (s : List ℕ) (g : Group) (ls : List Line) → (g ≡ OfNumbers → ⊥) → AllOf g ls → Says_nothing s ls
groups_apart s g ls n a = ((λ e i. n (sym (a _ i))), (λ k i. n (sym (a _ i))))

finished_silent : (s : List ℕ) (d : Done) → Says_nothing s d.lines → Says_nothing s (finish d).lines
finished_silent s d a = ((λ e i. a.0 e (line_of d _ (λ h. absurd cc) i)), (λ n i. a.1 n (line_of d _ (λ h. absurd cc) i)))

pub log_grows : (s : List ℕ) (hs : List Happened) (h : Happened) → sequencer_log s (hs ++ h ∷ []) ≡ or_else (sequencer_log s hs) (log_activated s h.lines h.event)
log_grows s hs h = first_grows (λ (g : Happened). log_activated s g.lines g.event) hs h

active_in : (s : List ℕ) (x : Line) → activates_name s x ≡ true → (e : ℕ) × (x ≡ lines.Active s e)
active_in s (lines.Active t e) h = (e, ap (λ n. lines.Active n e) (same-true t s h))
active_in s _ h = absurd cc

not_activated : (s : List ℕ) (ls : List Line) (e : Event) → ((k : ℕ) → In (lines.Active s k) ls → ⊥) → log_activated s ls e ≡ None
not_activated s ls (events.Activate name l) h = cond_both (same name s && any_of (activates_name s) ls) _ None (λ o. o ≡ None)
    (λ t. absurd (let p = and_parts (same name s) (any_of (activates_name s) ls) t in let x = any_in (activates_name s) ls p.1 in let a = active_in s x.0 x.2 in h a.0 (subst (λ y. In y ls) a.1 x.1))) (λ t. refl)
not_activated s ls _ h = refl

old_line : (hs : List Happened) (old : Register) (e : Move) (d : Done) (s : List ℕ) (n k : ℕ) → Says_nothing s d.lines → Writes (hs ++ told old e d ∷ []) k (lines.Appended s n) → Writes hs k (lines.Appended s n)
old_line hs old e d s n k a w = elim (writes_cases hs (told old e d) k _ w) [ inl o ↦ o | inr i ↦ absurd ((finished_silent s d a).1 n i.1) ]

module _ (hs : List Happened) (old : Register) (e : Move) (d : Done) (s : List ℕ) (a : Says_nothing s d.lines) where
  log_kept : (o : Option ℕ) → sequencer_log s hs ≡ o → sequencer_log s (hs ++ told old e d ∷ []) ≡ o
  log_kept None h = log_grows s hs (told old e d) ∙ or_else_none _ _ h (not_activated s (finish d).lines (event_of e) (finished_silent s d a).0)
  log_kept (Some l) h = log_grows s hs (told old e d) ∙ or_else_some _ _ l h

  unknown_stays : Unknown hs s → Unknown (hs ++ told old e d ∷ []) s
  unknown_stays u = record { unknown = log_kept None u.unknown; silent = λ n k w. u.silent n k (old_line hs old e d s n k a w) }

  counts_stay : (q p : Sequencer) → Continues q p → Counts hs s q → Counts (hs ++ told old e d ∷ []) s p
  counts_stay q p c u = record {
    known = log_kept (Some p.log) (u.known ∙ ap Some (sym c.log));
    small = let z = u.small in let x = c.count in omega arith;
    row = c.row;
    below = λ n k w. let b = u.below n k (old_line hs old e d s n k a w) in let x = c.count in let y = c.epoch in (subst (λ v. numbered v 1 ≤ n) (sym y) b.0, subst (λ v. n < numbered v (next_esn p)) (sym y) (subst (λ v. n < numbered q.epoch v) (sym x) b.1));
    rises = λ n m j k v w. u.rises n m j k (old_line hs old e d s n j a v) (old_line hs old e d s m k a w);
  }

  stay : (o : Option Sequencer) → CountedBy hs s o → CountedBy (hs ++ told old e d ∷ []) s o
  stay None u = unknown_stays u
  stay (Some q) u = counts_stay q q (stays_same q u.row) u

-- ---- an append ----

module _ (hs : List Happened) (old : Register) (e : Move) (d : Done) (s : List ℕ) (q : Sequencer) (payload : List ℕ) (L : d.lines ≡ lines.Appended s (numbered q.epoch (next_esn q)) ∷ []) (A : next_esn q < last_esn) (u : Counts hs s q) where
  append_line : (n k : ℕ) → Writes (hs ++ told old e d ∷ []) k (lines.Appended s n) → Writes hs k (lines.Appended s n) ⊎ ((k ≡ length hs) × (n ≡ numbered q.epoch (next_esn q)))
  append_line n k w = elim (writes_cases hs (told old e d) k _ w) [
    | inl o ↦ inl o
    | inr i ↦ let x : In (lines.Appended s n) (lines.Appended s (numbered q.epoch (next_esn q)) ∷ []) = subst (λ ls. In (lines.Appended s n) ls) L (line_of d _ (λ h. absurd cc) i.1) in
        inr (i.0, elim x [ inl z ↦ (let y : n ≡ numbered q.epoch (next_esn q) = cc in y) | inr z ↦ absurd z ])
  ]

  appended_length : next_esn (appended q payload) ≡ next_esn q + 1
  appended_length = let l = length-append q.appends ((numbered q.epoch (next_esn q), fresh_append payload) ∷ []) in omega arith

  counts_append : Counts (hs ++ told old e d ∷ []) s (appended q payload)
  counts_append = record {
    known = log_grows s hs (told old e d) ∙ or_else_some _ _ q.log u.known;
    small = let b = appended_length in omega arith;
    row = row_end (numbered q.epoch (q.lng + 1)) q.appends _ u.row (omega arith);
    below = λ n k w. let b = appended_length in elim (append_line n k w) [
      | inl o ↦ let v = u.below n k o in (v.0, omega arith)
      | inr o ↦ let v = o.1 in (omega arith, omega arith)
    ];
    rises = λ n m j k v w l. elim (append_line n j v) [
      | inl o ↦ elim (append_line m k w) [
        | inl p ↦ u.rises n m j k o p l
        | inr p ↦ let b = (u.below n j o).1 in let y = p.1 in omega arith
      ]
      | inr o ↦ elim (append_line m k w) [
        | inl p ↦ absurd (let b = slice_get_below p.0 hs k p.1 in let y = o.0 in omega arith)
        | inr p ↦ absurd (let x = o.0 in let y = p.0 in omega arith)
      ]
    ];
  }

-- an append that is numbered isn't at the epoch's end
numbered_not_full : (o : Option ℕ) (b : Bool) (x : Appending) → or_preempted o (cond b EpochFull x) ≡ Numbered → b ≡ false
numbered_not_full (Some k) b x h = absurd cc
numbered_not_full None true x h = absurd cc
numbered_not_full None false x h = refl

pub below_last : (q : Sequencer) (payload : List ℕ) → next_esn q ≤ last_esn → appending q payload ≡ Numbered → next_esn q < last_esn
unfolding appending
below_last q payload l h = elim (branch (nat_lt payload_limit (length payload)) TooLong _ Numbered h) [
  | inl t ↦ absurd (let z = t.1 in cc)
  | inr t ↦ let f = numbered_not_full q.preempted (next_esn q == last_esn) _ t.1 in let n = eqb-false (next_esn q) last_esn f in elim (cases_order (next_esn q) last_esn) [ inl e ↦ absurd (n e) | inr (inl a) ↦ a | inr (inr a) ↦ absurd (omega arith) ]
]

-- ---- an activation ----

module _ (hs : List Happened) (old : Register) (d : Done) (s : List ℕ) (l epoch lce : ℕ) (looks : ℕ → View) (p : Spec) (L : d.lines ≡ lines.Active s epoch ∷ []) (u : Unknown hs s) where
  none_appended : (n k : ℕ) → Writes (hs ++ told old (Takes (events.Activate s l)) d ∷ []) k (lines.Appended s n) → ⊥
  none_appended n k w = elim (writes_cases hs (told old (Takes (events.Activate s l)) d) k _ w) [
    | inl o ↦ u.silent n k o
    | inr i ↦ let x : In (lines.Appended s n) (lines.Active s epoch ∷ []) = subst (λ ls. In (lines.Appended s n) ls) L (line_of d _ (λ h. absurd cc) i.1) in elim x [ inl z ↦ cc | inr z ↦ z ]
  ]

  now_active : log_activated s (finish d).lines (events.Activate s l) ≡ Some l
  now_active = ap (λ b. cond (b && any_of (activates_name s) (finish d).lines) (Some l) None) (same-self s)
      ∙ ap (λ b. cond b (Some l) None) (any_from (activates_name s) (lines.Active s epoch) (finish d).lines (finish_In d _ (subst (λ ls. In (lines.Active s epoch) ls) (sym L) (inl refl))) (same-self s))

  counts_active : Counts (hs ++ told old (Takes (events.Activate s l)) d ∷ []) s (activated looks p l epoch lce)
  unfolding activated
  counts_active = record {
    known = log_grows s hs (told old (Takes (events.Activate s l)) d) ∙ (or_else_new _ _ u.unknown ∙ now_active);
    small = omega arith;
    row = tt;
    below = λ n k w. absurd (none_appended n k w);
    rises = λ n m j k v w. absurd (none_appended n j v);
  }

-- ---- epochs ----

-- the register's epochs don't fall, and don't pass their limit
abbrev Rises : Register → Register → Type 0
Rises r n = (l : ℕ) → ((epochs_of r l).epoch ≤ (epochs_of n l).epoch) × ((epochs_of r l).epoch ≤ epoch_limit → (epochs_of n l).epoch ≤ epoch_limit)

same_rises : (r n : Register) → Same r n → Rises r n
same_rises r n s l = let e = epochs_same r n l s in let f : (epochs_of n l).epoch ≡ (epochs_of r l).epoch = ap (λ (x : Epochs). x.epoch) e in (omega arith, λ b. omega arith)

put_rises : (r n : Register) (l : ℕ) (x : Epochs) → (epochs_of r l).epoch ≤ x.epoch → ((epochs_of r l).epoch ≤ epoch_limit → x.epoch ≤ epoch_limit) → Same (with_epochs r l x) n → Rises r n
put_rises r n l x h m s k = let e = epochs_same (with_epochs r l x) n k s in let f : (epochs_of n k).epoch ≡ (epochs_of (with_epochs r l x) k).epoch = ap (λ (x : Epochs). x.epoch) e in elim (epochs_put r l k x) [
  | inl a ↦ let g : (epochs_of (with_epochs r l x) k).epoch ≡ x.epoch = ap (λ (x : Epochs). x.epoch) a.1 in
      subst (λ v. ((epochs_of r v).epoch ≤ (epochs_of n k).epoch) × ((epochs_of r v).epoch ≤ epoch_limit → (epochs_of n k).epoch ≤ epoch_limit)) (sym a.0) (omega arith, λ b. (let z = m b in omega arith))
  | inr a ↦ let g : (epochs_of (with_epochs r l x) k).epoch ≡ (epochs_of r k).epoch = ap (λ (x : Epochs). x.epoch) a.1 in (omega arith, λ b. omega arith)
]

swap_rises : (r : Register) (l upto old new : ℕ) → Rises r (swap r l upto old new).register
swap_rises r l upto old new = elim (swap_leaves r l upto old new) [ inl s ↦ same_rises r (swap r l upto old new).register s | inr s ↦ put_rises r (swap r l upto old new).register l (swapped_epochs (epochs_of r l) upto old new) (omega arith) (λ z. omega arith) s ]

activate_rises : (r : Register) (l : ℕ) (p : Spec) → Rises r (activate r l p).register
activate_rises r l p = elim (activate_leaves r l p) [ inl s ↦ same_rises r (activate r l p).register s | inr s ↦ let z = s.0 in put_rises r (activate r l p).register l (next_epoch (epochs_of r l) p) (omega arith) (λ z. omega arith) s.1 ]

draw_rises : (r : Register) (n : ℕ) → Rises r (draw r n).register
draw_rises r n l = elim (draw_leaves r n) [
  | inl s ↦ same_rises r (draw r n).register s l
  | inr s ↦ let f : (epochs_of (draw r n).register l).epoch ≡ (epochs_of r l).epoch = ap (λ m. (unwrap_or (find l m) no_epochs).epoch) s.0 in (omega arith, λ b. omega arith)
]

close_rises : (r : Register) (l e : ℕ) (y : Summary) (b : Bool) → Rises r (close r l e y b).register
close_rises r l e y b = elim (close_leaves r l e y b) [ inl s ↦ same_rises r (close r l e y b).register s | inr s ↦ put_rises r (close r l e y b).register l (closed_epochs (epochs_of r l) e y) (omega arith) (λ z. omega arith) s.1 ]

called_rises : (looks : ℕ → View) (r : Register) (a : Acts) (ts : List Attempt) → Rises r (called looks r a ts).register
called_rises looks r a [] l = (omega arith, λ b. omega arith)
called_rises looks r a (t ∷ ts) l = close_rises r a.sequencer.log t.epoch t.summary t.short l

rises_once : (m : List (List ℕ × Sequencer)) (r n : Register) → Rises r n → Epochs_once m r → Epochs_once m n
rises_once m r n h o = record { limit = λ l. (h l).1 (o.limit l); drawn = λ s q f. let a = o.drawn s q f in let b = (h q.log).0 in omega arith; positive = o.positive; once = o.once }

continues_once : (m : List (List ℕ × Sequencer)) (r : Register) (s : List ℕ) (q p : Sequencer) → find_named s m ≡ Some q → p.log ≡ q.log → p.epoch ≡ q.epoch → Epochs_once m r → Epochs_once (put_named s p m) r
continues_once m r s q p f g h o = record {
  limit = o.limit;
  positive = λ t v i. let a = before t v i in let b = o.positive t a.0 a.1 in let y = a.3 in omega arith;
  drawn = λ t v i. let a = before t v i in let b = o.drawn t a.0 a.1 in let x = a.2 in let y = a.3 in subst (λ k. v.epoch ≤ (epochs_of r k).epoch) x (subst (λ k. k ≤ (epochs_of r a.0.log).epoch) y b);
  once = λ t u v w i j x y. let a = before t v i in let b = before u w j in o.once t u a.0 b.0 a.1 b.1 (a.2 ∙ (x ∙ sym b.2)) (a.3 ∙ (y ∙ sym b.3));
} where
  before : (t : List ℕ) (v : Sequencer) → find_named t (put_named s p m) ≡ Some v → (w : Sequencer) × (find_named t m ≡ Some w) × (w.log ≡ v.log) × (w.epoch ≡ v.epoch)
  before t v i = elim (named_cases t s p m) [
    | inl a ↦ let e : p ≡ v = Some_inj (sym a.1 ∙ i) in (q, subst (λ k. find_named k m ≡ Some q) (sym a.0) f, sym g ∙ ap (λ (z : Sequencer). z.log) e, sym h ∙ ap (λ (z : Sequencer). z.epoch) e)
    | inr a ↦ (v, sym a.1 ∙ i, refl, refl)
  ]

-- a new epoch is above all
active_once : (m : List (List ℕ × Sequencer)) (r n : Register) (s : List ℕ) (l : ℕ) (fixed : Spec) (p : Sequencer) → find_named s m ≡ None → Rises r n → Advanced r l fixed n → p.log ≡ l → p.epoch ≡ (epochs_of n l).epoch → Epochs_once m r → Epochs_once (put_named s p m) n
active_once m r n s l fixed p f rises g h k o = record {
  limit = λ v. (rises v).1 (o.limit v);
  positive = λ t v i. elim (found_in t v i) [
    | inl a ↦ (let u = new_epoch in let y : p.epoch ≡ v.epoch = ap (λ (z : Sequencer). z.epoch) a.1 in omega arith)
    | inr a ↦ o.positive t v a
  ];
  drawn = λ t v i. elim (found_in t v i) [
    | inl a ↦ subst (λ x. x.epoch ≤ (epochs_of n x.log).epoch) a.1 (subst (λ x. p.epoch ≤ (epochs_of n x).epoch) (sym h) (omega arith))
    | inr a ↦ let b = o.drawn t v a in let c = rises v.log in omega arith
  ];
  once = λ t u v w i j x y. elim (found_in t v i) [
    | inl a ↦ elim (found_in u w j) [
      | inl b ↦ a.0 ∙ sym b.0
      | inr b ↦ absurd (fresh u w b (sym x ∙ (ap (λ (z : Sequencer). z.log) (sym a.1) ∙ h)) (sym y ∙ ap (λ (z : Sequencer). z.epoch) (sym a.1)))
    ]
    | inr a ↦ elim (found_in u w j) [
      | inl b ↦ absurd (fresh t v a (x ∙ (ap (λ (z : Sequencer). z.log) (sym b.1) ∙ h)) (y ∙ ap (λ (z : Sequencer). z.epoch) (sym b.1)))
      | inr b ↦ o.once t u v w a b x y
    ]
  ];
} where
  found_in : (t : List ℕ) (v : Sequencer) → find_named t (put_named s p m) ≡ Some v → ((t ≡ s) × (p ≡ v)) ⊎ (find_named t m ≡ Some v)
  found_in t v i = elim (named_cases t s p m) [ inl a ↦ inl (a.0, Some_inj (sym a.1 ∙ i)) | inr a ↦ inr (sym a.1 ∙ i) ]

  new_epoch : (epochs_of n l).epoch ≡ (epochs_of r l).epoch + 1
  new_epoch = let e = epochs_same (with_epochs r l (next_epoch (epochs_of r l) fixed)) n l g in elim (epochs_put r l l (next_epoch (epochs_of r l) fixed)) [
    | inl y ↦ ap (λ (x : Epochs). x.epoch) (e ∙ y.1)
    | inr y ↦ absurd (y.0 refl)
  ]

  fresh : (t : List ℕ) (v : Sequencer) → find_named t m ≡ Some v → v.log ≡ l → v.epoch ≡ p.epoch → ⊥
  fresh t v i a b = let z = o.drawn t v i in let e = epochs_same (with_epochs r l (next_epoch (epochs_of r l) fixed)) n l g in elim (epochs_put r l l (next_epoch (epochs_of r l) fixed)) [
    | inl y ↦ let u : (epochs_of n l).epoch ≡ (epochs_of r l).epoch + 1 = ap (λ (x : Epochs). x.epoch) (e ∙ y.1) in let w : (epochs_of r v.log).epoch ≡ (epochs_of r l).epoch = ap (λ x. (epochs_of r x).epoch) a in omega arith
    | inr y ↦ y.0 refl
  ]

-- ---- every event ----

module _ (c : Config) (hs : List Happened) (w : World) (e : Move) (N : NamesOnce w.state) (A : AllCounts hs w) where
  abbrev Result : Done → Type 0
  Result d = AllCounts (hs ++ told w.state.register e d ∷ []) (became w e d [])

  -- sequencers stay
  stays : (d : Done) → d.state.sequencers ≡ w.state.sequencers → Rises w.state.register d.state.register → ((s : List ℕ) → Says_nothing s d.lines) → Result d
  unfolding finish
  stays d q r n = record {
    counted = λ s. subst (λ (x : List (List ℕ × Sequencer)). CountedBy (hs ++ told w.state.register e d ∷ []) s (find_named s x)) (sym q) (stay hs w.state.register e d s (n s) (find_named s w.state.sequencers) (A.counted s));
    epochs = subst (λ (x : List (List ℕ × Sequencer)). Epochs_once x d.state.register) (sym q) (rises_once w.state.sequencers w.state.register d.state.register r A.epochs);
  }

  of_group : (g : Group) → (g ≡ OfNumbers → ⊥) → (ls : List Line) → AllOf g ls → (s : List ℕ) → Says_nothing s ls
  of_group g n ls a s = groups_apart s g ls n a

  -- one sequencer goes on
  goes_on : (d : Done) (name : List ℕ) (q p : Sequencer) → d.state.sequencers ≡ put_named name p w.state.sequencers → Rises w.state.register d.state.register → find_named name w.state.sequencers ≡ Some q → ((s : List ℕ) → Says_nothing s d.lines) → (RowOf q → Continues q p) → Result d
  unfolding finish
  goes_on d name q p z r f n k =
      let u : Counts hs name q = subst (λ (o : Option Sequencer). CountedBy hs name o) f (A.counted name) in
      let x : Continues q p = k u.row in
      record {
        counted = λ s. subst (λ (v : List (List ℕ × Sequencer)). CountedBy (hs ++ told w.state.register e d ∷ []) s (find_named s v)) (sym z) (elim (named_cases s name p w.state.sequencers) [
          | inl a ↦ subst (λ (o : Option Sequencer). CountedBy (hs ++ told w.state.register e d ∷ []) s o) (sym a.1) (subst (λ t. Counts (hs ++ told w.state.register e d ∷ []) t p) (sym a.0) (counts_stay hs w.state.register e d name (n name) q p x u))
          | inr a ↦ subst (λ (o : Option Sequencer). CountedBy (hs ++ told w.state.register e d ∷ []) s o) (sym a.1) (stay hs w.state.register e d s (n s) (find_named s w.state.sequencers) (A.counted s))
        ]);
        epochs = subst (λ (v : List (List ℕ × Sequencer)). Epochs_once v d.state.register) (sym z)
            (continues_once w.state.sequencers d.state.register name q p f x.log x.epoch (rises_once w.state.sequencers w.state.register d.state.register r A.epochs));
      }

  -- another name's line
  other_appended : (s t : List ℕ) (n : ℕ) (ls : List Line) → same s t ≡ false → ls ≡ lines.Appended t n ∷ [] → Says_nothing s ls
  other_appended s t n ls h q = subst (λ l. Says_nothing s l) (sym q) ((λ k i. elim i [ inl z ↦ cc | inr z ↦ z ]), (λ k i. elim i [ inl z ↦ (let y : s ≡ t = cc in let x : same s t ≡ true = subst (λ v. same s v ≡ true) y (same-self s) in cc) | inr z ↦ z ]))

  other_active : (s t : List ℕ) (n : ℕ) (ls : List Line) → same s t ≡ false → ls ≡ lines.Active t n ∷ [] → Says_nothing s ls
  other_active s t n ls h q = subst (λ l. Says_nothing s l) (sym q) ((λ k i. elim i [ inl z ↦ (let y : s ≡ t = cc in let x : same s t ≡ true = subst (λ v. same s v ≡ true) y (same-self s) in cc) | inr z ↦ z ]), (λ k i. elim i [ inl z ↦ cc | inr z ↦ z ]))

  appends_one : (d : Done) (name : List ℕ) (q : Sequencer) (payload : List ℕ) → d.state.sequencers ≡ put_named name (appended q payload) w.state.sequencers → d.state.register ≡ w.state.register → d.lines ≡ lines.Appended name (numbered q.epoch (next_esn q)) ∷ []
      → find_named name w.state.sequencers ≡ Some q → appending q payload ≡ Numbered → Result d
  unfolding finish
  appends_one d name q payload z r L f i =
      let u : Counts hs name q = subst (λ (o : Option Sequencer). CountedBy hs name o) f (A.counted name) in
      record {
        counted = λ s. subst (λ (v : List (List ℕ × Sequencer)). CountedBy (hs ++ told w.state.register e d ∷ []) s (find_named s v)) (sym z) (elim (named_cases s name (appended q payload) w.state.sequencers) [
          | inl a ↦ subst (λ (o : Option Sequencer). CountedBy (hs ++ told w.state.register e d ∷ []) s o) (sym a.1) (subst (λ t. Counts (hs ++ told w.state.register e d ∷ []) t (appended q payload)) (sym a.0) (counts_append hs w.state.register e d name q payload L (below_last q payload u.small i) u))
          | inr a ↦ subst (λ (o : Option Sequencer). CountedBy (hs ++ told w.state.register e d ∷ []) s o) (sym a.1) (stay hs w.state.register e d s (other_appended s name _ d.lines a.0 L) (find_named s w.state.sequencers) (A.counted s))
        ]);
        epochs = subst (λ (v : List (List ℕ × Sequencer)). Epochs_once v d.state.register) (sym z)
            (continues_once w.state.sequencers d.state.register name q (appended q payload) f refl refl (subst (Epochs_once w.state.sequencers) (sym r) A.epochs));
      }

  activates_one : (d : Done) (name : List ℕ) (l epoch lce : ℕ) (looks : ℕ → View) (p : Spec) → d.state.sequencers ≡ put_named name (activated looks p l epoch lce) w.state.sequencers → Advanced w.state.register l p d.state.register → epoch ≡ (epochs_of d.state.register l).epoch → d.lines ≡ lines.Active name epoch ∷ []
      → find_named name w.state.sequencers ≡ None → Rises w.state.register d.state.register → e ≡ Takes (events.Activate name l) → Result d
  unfolding finish activated
  activates_one d name l epoch lce looks p z r k L f up x =
      let u : Unknown hs name = subst (λ (o : Option Sequencer). CountedBy hs name o) f (A.counted name) in
      record {
        counted = λ s. subst (λ (v : List (List ℕ × Sequencer)). CountedBy (hs ++ told w.state.register e d ∷ []) s (find_named s v)) (sym z) (elim (named_cases s name (activated looks p l epoch lce) w.state.sequencers) [
          | inl a ↦ subst (λ (o : Option Sequencer). CountedBy (hs ++ told w.state.register e d ∷ []) s o) (sym a.1) (subst (λ t. Counts (hs ++ told w.state.register e d ∷ []) t (activated looks p l epoch lce)) (sym a.0)
              (subst (λ v. Counts (hs ++ told w.state.register v d ∷ []) name (activated looks p l epoch lce)) (sym x) (counts_active hs w.state.register d name l epoch lce looks p L u)))
          | inr a ↦ subst (λ (o : Option Sequencer). CountedBy (hs ++ told w.state.register e d ∷ []) s o) (sym a.1) (stay hs w.state.register e d s (other_active s name _ d.lines a.0 L) (find_named s w.state.sequencers) (A.counted s))
        ]);
        epochs = subst (λ (v : List (List ℕ × Sequencer)). Epochs_once v d.state.register) (sym z) (active_once w.state.sequencers w.state.register d.state.register name l p _ f up r refl k A.epochs);
      }

  no_rise : Rises w.state.register w.state.register
  no_rise l = (omega arith, λ b. omega arith)

  nodes : (ls : List Line) → AllOf OfNodes ls → (s : List ℕ) → Says_nothing s ls
  nodes ls a s = groups_apart s OfNodes ls (λ h. cc) a

  acts : (ls : List Line) → AllOf OfActs ls → (s : List ℕ) → Says_nothing s ls
  acts ls a s = groups_apart s OfActs ls (λ h. cc) a

  quiet_says : (x : Line) → is_quiet x ≡ true → (s : List ℕ) → Says_nothing s (x ∷ [])
  quiet_says x q s = elim (quiet_of x q) [
    | inl g ↦ nodes (x ∷ []) (λ y i. one_of x y i ∙ g) s
    | inr g ↦ acts (x ∷ []) (λ y i. one_of x y i ∙ g) s
  ]

  quiet_all : (ls : List Line) → ((x : Line) → In x ls → is_quiet x ≡ true) → (s : List ℕ) → Says_nothing s ls
  quiet_all ls q s = ((λ e i. let z = q _ i in cc), (λ n i. let z = q _ i in cc))

  sends_nothing : (s : List ℕ) → Says_nothing s []
  sends_nothing s = ((λ e i. absurd i), (λ n i. absurd i))

  keeps_one : (s : State) (n : ℕ) (o : Op) (ls : List Line) (ms : List Msg) → s.sequencers ≡ w.state.sequencers → Rises w.state.register s.register → AllOf OfNodes ls → Result (Step.keeps_op s n o ls ms)
  keeps_one s n o ls ms q r a = stays (Step.keeps_op s n o ls ms) q r (nodes (Step.kept_lines n ls (keep_end (node_at s n) o)) (kept_of n ls (keep_end (node_at s n) o) a))

  handled : (f : List ℕ) (x : Node) (n : ℕ) (m : Msg) (o : Option Op) (b : Option Body) → Result (Step.handles (with_node (refreshed w.state f) n x) n m o b)
  handled f x n m None b = stays (Step.handles (with_node (refreshed w.state f) n x) n m None b) refl no_rise sends_nothing
  handled f x n m (Some o) b = keeps_one (with_node (refreshed w.state f) n x) n o [] (answer_message n m b) refl no_rise (none_of OfNodes)

  ticked : (n l : ℕ) (t : Ticked) → Result (Step.ticks_as c w.state n l t)
  ticked n l (Cleans k y) = keeps_one w.state n (ops.Clean l k y) [] [] refl no_rise (none_of OfNodes)
  ticked n l Rebuilt = keeps_one w.state n (ops.Refilled l) (lines.NodeRebuilt n l ∷ []) [] refl no_rise (one_of (lines.NodeRebuilt n l))
  ticked n l (Asks from) = stays (Step.ticks_as c w.state n l (Asks from)) refl no_rise sends_nothing
  ticked n l Nothing = stays (Step.ticks_as c w.state n l Nothing) refl no_rise sends_nothing

  acted_on : (again : Bool) (f : List ℕ) (name : List ℕ) (q : Sequencer) (call : Called) → Rises w.state.register call.register → find_named name w.state.sequencers ≡ Some q → (RowOf q → Continues q call.acts.sequencer) → Result (Step.told (refreshed w.state f) name q (announced again call))
  acted_on again f name q call r h k = goes_on (Step.told (refreshed w.state f) name q (announced again call)) name q call.acts.sequencer refl r h
      (acts _ (acted_of name q call.acts)) k

  count_cases : Cases c w.state e (λ d m. Result d)
  count_cases = record {
    still = λ f older i. stays _ refl no_rise sends_nothing;
    says = λ x q. stays _ refl no_rise (quiet_says x q);
    node_hears = λ f older n m i t v o. handled f (Step.releases (node_at w.state n) m.log m.body) n m (Step.node_handles n (node_at w.state n) m).op (Step.node_handles n (node_at w.state n) m).answer;
    loads = λ n ls q b o. stays _ refl no_rise (quiet_all ls q);
    draw_fails = λ n b. stays _ refl (draw_rises w.state.register n) (nodes (lines.NodeRefusedRegister n ∷ []) (one_of (lines.NodeRefusedRegister n)));
    formats = λ n r g b v i. keeps_one (with_register (loaded w.state n) r) n (ops.Format (generation_of r n) (epochs_in r.logs)) (Step.format_lines c n r) [] refl (subst (λ (d : Changed). Rises w.state.register d.register) i (draw_rises w.state.register n)) (format_of c n r);
    ticks = λ n l t v i o. ticked n l t;
    stops = λ n b. stays _ refl no_rise (nodes (lines.NodeDown n ∷ []) (one_of (lines.NodeDown n)));
    wipes = λ n. stays _ refl no_rise (nodes (lines.NodeWiped n ∷ []) (one_of (lines.NodeWiped n)));
    faults = λ n f o. stays _ refl no_rise sends_nothing;
    sets = λ l r x set h. stays _ refl no_rise (λ s. groups_apart s OfSets (lines.Set l r x set ∷ []) (λ h. cc) (one_of (lines.Set l r x set)));
    arms = λ k done o. stays _ refl no_rise sends_nothing;
    hears = λ f older name q m i t l v o. acted_on false f name q (reply_call c w.state q (Step.sender_node m.from) m.body) (called_rises (looks_at c w.state.register q.log) w.state.register (on_reply (looks_at c w.state.register q.log) q (Step.sender_node m.from) m.body) _) v.named (λ r. reply_continues c w.state q r name (Step.sender_node m.from) m.body v.there);
    retries = λ again name q v o. acted_on again w.state.network.fresh name q (retry_call c w.state q) (called_rises (looks_at c w.state.register q.log) w.state.register (on_retry (looks_at c w.state.register q.log) q) _) v.named (λ r. retry_continues c w.state q r v.there);
    appends = λ name q p v a i. appends_one _ name q p refl refl refl v.named a;
    trims = λ name q t v b. stays _ refl no_rise (λ s. groups_apart s OfTrims (lines.Trimmed name t ∷ []) (λ h. cc) (one_of (lines.Trimmed name t)));
    drops = λ name q v o. goes_on _ name q (Step.dropped q) refl no_rise v.named sends_nothing (λ r. record { log = refl; epoch = refl; count = refl; row = r });
    activates = λ name l r g n i x. activates_one _ name l (epochs_of r l).epoch (lce_of r l) (looks_at c r l) (Step.spec_set c w.state l) refl (activate_granted w.state.register l (Step.spec_set c w.state l) r i) refl refl n (subst (λ (d : Changed). Rises w.state.register d.register) i (activate_rises w.state.register l (Step.spec_set c w.state l))) x;
    swaps = λ n m l x r q i. stays _ refl (swap_rises w.state.register l _ m n) (quiet_says x q);
    activate_fails = λ name l x g q. stays _ refl (activate_rises w.state.register l (Step.spec_set c w.state l)) (quiet_says x q);
    answers = λ f older name d m i t v o. stays _ refl no_rise (λ s. groups_apart s OfItems _ (λ h. cc) (items_of _ name _ (on_answer (looks_at c w.state.register d.log) d (Step.sender_node m.from) m.body).items));
    polls = λ name d v o. stays _ refl no_rise sends_nothing;
    opens = λ style name l from until o x. stays _ refl no_rise sends_nothing;
  }

pub counts_kept : (c : Config) → Keeps c (λ hs w. NamesOnce w.state × AllCounts hs w)
unfolding find_named find
counts_kept c = with_names c AllCounts (record {
  counted = λ s. record { unknown = refl; silent = λ n k w. absurd (not_none w.1) };
  epochs = record { limit = λ l. omega arith; drawn = λ s q h. absurd (not_none h); positive = λ s q h. absurd (not_none h); once = λ s t q p h. absurd (not_none h) };
}) (λ hs w e N A. count_cases c hs w e N A)

-- ---- whose number it is ----

module _ (hs : List Happened) (m : List (List ℕ × Sequencer)) (r : Register) (C : CountsOf hs m r) where
  pub record Whose (l n : ℕ) (s : List ℕ) : Type 0 where
    pub sequencer : Sequencer
    pub named : find_named s m ≡ Some sequencer
    pub log : sequencer.log ≡ l
    pub from_one : numbered sequencer.epoch 1 ≤ n
    pub in_epoch : n < numbered sequencer.epoch last_esn

  pub whose : (l n : ℕ) (p : List ℕ) (k : ℕ) (a : Appends hs l n p k) → Whose l n a.name
  whose l n p k a = whose_by (find_named a.name m) refl (C.counted a.name) where
    whose_by : (o : Option Sequencer) → find_named a.name m ≡ o → CountedBy hs a.name o → Whose l n a.name
    whose_by None f u = absurd (u.silent n k a.told)
    whose_by (Some q) f u = let b = u.below n k a.told in let z = u.small in record { sequencer = q; named = f; log = Some_inj (sym u.known ∙ a.of_log); from_one = b.0; in_epoch = let y = b.1 in omega arith }

  same_epoch : (e f n : ℕ) → numbered e 1 ≤ n → n < numbered e last_esn → numbered f 1 ≤ n → n < numbered f last_esn → e ≡ f
  same_epoch e f n a b x y = elim (cases_order e f) [ inl q ↦ q | inr (inl q) ↦ absurd (omega arith) | inr (inr q) ↦ absurd (omega arith) ]

  pub rises_all : (s : List ℕ) (n k j i : ℕ) → Writes hs j (lines.Appended s n) → Writes hs i (lines.Appended s k) → j < i → n < k
  rises_all s n k j i v w l = rise_by (find_named s m) (C.counted s) where
    rise_by : (o : Option Sequencer) → CountedBy hs s o → n < k
    rise_by None u = absurd (u.silent n j v)
    rise_by (Some q) u = u.rises n k j i v w l

  -- a number is appended in one step
  pub one_step : (l n j k : ℕ) (p q : List ℕ) → Appends hs l n p j → Appends hs l n q k → j ≡ k
  one_step l n j k p q a b =
      let x = whose l n p j a in let y = whose l n q k b in
      let s : a.name ≡ b.name = C.epochs.once a.name b.name x.sequencer y.sequencer x.named y.named (x.log ∙ sym y.log) (same_epoch x.sequencer.epoch y.sequencer.epoch n x.from_one x.in_epoch y.from_one y.in_epoch) in
      let v : Writes hs k (lines.Appended a.name n) = subst (λ (t : List ℕ). Writes hs k (lines.Appended t n)) (sym s) b.told in
      elim (cases_order j k) [
        | inl h ↦ h
        | inr (inl h) ↦ absurd (let r = rises_all a.name n n j k a.told v h in omega arith)
        | inr (inr h) ↦ absurd (let r = rises_all a.name n n k j v a.told h in omega arith)
      ]

  -- one event appends one payload
  asks_once : (s t p q : List ℕ) (e : Event) → AsksToAppend s p e → AsksToAppend t q e → p ≡ q
  asks_once s t p q e (inl a) (inl b) = let z : events.Append s p ≡ events.Append t q = sym a ∙ b in cc
  asks_once s t p q e (inl a) (inr b) = absurd (let z : events.Append s p ≡ events.Batch t b.0 = sym a ∙ b.1 in cc)
  asks_once s t p q e (inr a) (inl b) = absurd (let z : events.Append t q ≡ events.Batch s a.0 = sym b ∙ a.1 in cc)
  asks_once s t p q e (inr a) (inr b) = let z : events.Batch s a.0 ≡ events.Batch t b.0 = sym a.1 ∙ b.1 in let m : a.0 ≡ b.0 = cc in a.2 ∙ (ap packed m ∙ sym b.2)

  -- with one payload
  pub one_payload : (l n j k : ℕ) (p q : List ℕ) → Appends hs l n p j → Appends hs l n q k → p ≡ q
  one_payload l n j k p q a b =
      let s = one_step l n j k p q a b in
      let h : a.here ≡ b.here = Some_inj (sym a.at ∙ (ap (slice_get hs) s ∙ b.at)) in
      asks_once a.name b.name p q b.here.event (subst (λ (x : Happened). AsksToAppend a.name p x.event) h a.asked) b.asked

-- ---- the laws ----

module _ (c : Config) (es : List Event) where
  pub rise : NumbersRise (history c es)
  rise s n m j k v w l = let p = at_end c (λ hs w. NamesOnce w.state × AllCounts hs w) (counts_kept c) es in rises_all (history c es) p.0.state.sequencers p.0.state.register p.1.1 s n m j k v w l

  pub differ : NumbersDiffer (history c es)
  differ l n j k p q a b = let w = at_end c (λ hs w. NamesOnce w.state × AllCounts hs w) (counts_kept c) es in one_step (history c es) w.0.state.sequencers w.0.state.register w.1.1 l n j k p q a b
