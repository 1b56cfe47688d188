-- What lines tell of a sequencer's numbers: its epoch, what it appended, what it acknowledged and what it released.
use Rattle.std.proofs.Common.{◌≡◌, ◌∙◌, ◌⊎◌, ◌≤◌, ◌<◌, ℕ, ◌+◌, inl, inr, refl, ap, sym, subst, true, false, List, [], ◌∷◌, ◌++◌, length, length-append, filter_map, Option, Some, None, nat_lt, arith}
use Rattle.std.proofs.lemmas.Bool.{cases_Bool, cases_order, ltb-true, ltb-false}
use Rattle.ld_table.specs.Named.{same, find_named, put_named}
use Rattle.ld_table.proofs.NameLaws.{same-self}
use Rattle.ld_lsn.specs.Number.{epoch_of, esn_of, numbered, epoch_end, last_esn}
use Rattle.ld_config.specs.declared.config.Config.{Config}
use Rattle.ld_schedule.specs.declared.event.Event.{Event}
use Rattle.ld_config.specs.Bounds.{IsInBounds}
use Rattle.ld_transcript.specs.declared.line.Line.{Line}
use Rattle.ld_transcript.specs.declared.line.Line.TheVariants as lines
use Rattle.ld_ids.specs.declared.set.Spec.{Spec}
use Rattle.ld_msg.specs.declared.msg.Msg.{Msg}
use Rattle.ld_msg.specs.declared.msg.Body.{Body}
use Rattle.ld_msg.specs.Register.{View, generation_of, epochs_in, epochs_of, lce_of}
use Rattle.ld_msg.specs.Reader.{on_answer}
use Rattle.ld_msg.specs.Sequencer.{Sequencer, Called, appended, fresh_append, activated, next_esn, released_of}
use Rattle.ld_op.specs.declared.op.Op.{Op}
use Rattle.ld_op.specs.declared.op.Op.TheVariants as ops
use Rattle.ld_op.specs.Ticks.{Ticked, Cleans, Rebuilt, Asks, Nothing}
use Rattle.ld_machine.specs.Config.{looks_at}
use Rattle.ld_machine.specs.Disk.{Node, keep_end}
use Rattle.ld_machine.specs.State.{State, Done, finish, node_at, with_node, with_register}
use Rattle.ld_machine.specs.Facts.{Happened, Writes, OfLog, number_appended}
use Rattle.ld_machine.specs.Safe.{OneNumber, NumbersHaveEpochs, AcksWereAppended, ReleasesWereAcked}
use Rattle.ld_machine.specs.World.{World, In, begin}
use Rattle.ld_machine.specs.Invariant.{Acked}
use Rattle.ld_machine.specs.Calm.{Move, moves}
use Rattle.ld_machine.specs.Run.{history, after_step}
use Rattle.ld_machine.specs.Step as Step
use Rattle.ld_safety.proofs.Lists.{Some_inj, not_none, only, cond_both, slice_get_below, slice_get_end, slice_get_last, slice_get-In}
use Rattle.ld_safety.proofs.Members.{find_in}
use Rattle.ld_safety.proofs.Names.{named_cases}
use Rattle.ld_safety.proofs.Traces.{Keeps, step_happened, at_end, beside_kept}
use Rattle.ld_safety.proofs.Events.{Cases, dispatch, refreshed, loaded, is_quiet, announced, reply_call, retry_call}
use Rattle.ld_safety.proofs.Steps.{is_plain, filter_finish, told, writes_cases, writes_before, finish_In}
use Rattle.ld_safety.proofs.Lines.{Group, OfNodes, OfNumbers, OfActs, OfTrims, OfSets, OfItems, OfMessages, group, AllOf, none_of, one_of, kept_of, format_of, acted_of, items_of, line_of}
use Rattle.ld_safety.proofs.Appends.{row_bounds}
use Rattle.ld_safety.proofs.Continues.{reply_continues, retry_continues}
use Rattle.ld_safety.proofs.Numbers.{Counts, CountedBy}
use Rattle.ld_safety.proofs.Base.{counts_of}
use Rattle.ld_safety.proofs.GivenSteps.{BaseGiven}
use Rattle.ld_safety.proofs.Along.{Along}
use Rattle.ld_safety.proofs.Specs.{SetsFine}
use Rattle.ld_safety.proofs.AckedLines.{AllLines, LinesFine, lines_kept}
use Rattle.ld_safety.proofs.ActedLines.{AcksWaiting, acked_line, released_line, reply_acks, retry_acks}

-- ---- what the steps tell of a name ----

-- its epoch, and no other one; and each number that it has given was told
pub record Tells (hs : List Happened) (s : List ℕ) (q : Sequencer) : Type 0 where
  pub active : (j : ℕ) × Writes hs j (lines.Active s q.epoch)
  pub one_epoch : (e j : ℕ) → Writes hs j (lines.Active s e) → e ≡ q.epoch
  pub appended : (n : ℕ) → numbered q.epoch 1 ≤ n → n < numbered q.epoch (next_esn q) → (j : ℕ) × Writes hs j (lines.Appended s n)

abbrev pub ToldOf : List Happened → List ℕ → Option Sequencer → Type 0
ToldOf hs s None = (e j : ℕ) → Writes hs j (lines.Active s e) → ⊥
ToldOf hs s (Some q) = Tells hs s q

abbrev pub AllTell : List Happened → List (List ℕ × Sequencer) → Type 0
AllTell hs m = (s : List ℕ) → ToldOf hs s (find_named s m)

-- a released number, with its sequencer's epoch
abbrev pub ReleaseTold : List Happened → List ℕ → ℕ → ℕ → ℕ → Type 0
ReleaseTold hs s n k e = (epoch_of n ≤ e) × ((m : ℕ) → numbered e 1 ≤ m → m ≤ n → (i : ℕ) × (i ≤ k) × Writes hs i (lines.Acked s m))

-- and what each line of the steps so far says
pub record NumbersTold (hs : List Happened) (w : World) : Type 0 where
  pub tell : AllTell hs w.state.sequencers
  pub one : OneNumber hs
  pub appended : (s : List ℕ) (n k : ℕ) → Writes hs k (lines.Appended s n) → (j : ℕ) × (j < k) × Writes hs j (lines.Active s (epoch_of n))
  pub acked : AcksWereAppended hs
  pub released : (s : List ℕ) (n k : ℕ) → Writes hs k (lines.Released s n) → (e j : ℕ) × (j < k) × Writes hs j (lines.Active s e) × ReleaseTold hs s n k e

-- ---- the lines of a step ----

abbrev numbers_in : List Line → List ℕ
numbers_in ls = filter_map number_appended ls

no_number : (x : Line) (ls : List Line) → number_appended x ≡ None → numbers_in (x ∷ ls) ≡ numbers_in ls
no_number x ls h = rw h refl

not_numbered : (g : Group) (x : Line) → (g ≡ OfNumbers → ⊥) → group x ≡ g → number_appended x ≡ None
not_numbered g (lines.Appended s k) n h = absurd (n (sym h))
not_numbered g _ n h = refl

no_numbers : (g : Group) (ls : List Line) → (g ≡ OfNumbers → ⊥) → AllOf g ls → numbers_in ls ≡ []
no_numbers g [] n a = refl
no_numbers g (x ∷ ls) n a = no_number x ls (not_numbered g x n (a x (inl refl))) ∙ no_numbers g ls n (λ y i. a y (inr i))

quiet_number : (x : Line) → is_quiet x ≡ true → number_appended x ≡ None
quiet_number (lines.Appended s k) h = absurd cc
quiet_number _ h = refl

quiet_numbers : (ls : List Line) → ((x : Line) → In x ls → is_quiet x ≡ true) → numbers_in ls ≡ []
quiet_numbers [] q = refl
quiet_numbers (x ∷ ls) q = no_number x ls (quiet_number x (q x (inl refl))) ∙ quiet_numbers ls (λ y i. q y (inr i))

few : (ls : List Line) → numbers_in ls ≡ [] → length (numbers_in ls) ≤ 1
few ls h = subst (λ (ns : List ℕ). length ns ≤ 1) (sym h) (omega arith)

plain_number : (x : Line) → is_plain x ≡ true → number_appended x ≡ None
plain_number (lines.Appended s n) h = absurd cc
plain_number _ h = refl

-- what a step leaves of sequencers, and what its lines say
pub record StepTells (hs : List Happened) (s : State) (e : Move) (d : Done) : Type 0 where
  pub tell : AllTell (hs ++ told s.register e d ∷ []) d.state.sequencers
  pub one : length (numbers_in d.lines) ≤ 1
  pub appended : (name : List ℕ) (n : ℕ) → In (lines.Appended name n) d.lines → (q : Sequencer) × (find_named name s.sequencers ≡ Some q) × (epoch_of n ≡ q.epoch)
  pub acked : (name : List ℕ) (n : ℕ) → In (lines.Acked name n) d.lines → (j : ℕ) × Writes hs j (lines.Appended name n)
  pub released : (name : List ℕ) (n : ℕ) → In (lines.Released name n) d.lines → (q : Sequencer) × (find_named name d.state.sequencers ≡ Some q) × (n ≡ released_of q) × ((j : ℕ) × Writes hs j (lines.Active name q.epoch))

module _ (c : Config) (hs : List Happened) (s : State) (e : Move) (A : AllTell hs s.sequencers) (C : (name : List ℕ) (q : Sequencer) → find_named name s.sequencers ≡ Some q → Counts hs name q) where
  -- no line says that a sequencer is active
  abbrev NoneActive : List Line → Type 0
  NoneActive ls = (name : List ℕ) (k : ℕ) → In (lines.Active name k) ls → ⊥

  tells_on : (d : Done) (name : List ℕ) (q p : Sequencer) → ((k : ℕ) → In (lines.Active name k) d.lines → ⊥) → p.epoch ≡ q.epoch → next_esn p ≡ next_esn q → Tells hs name q → Tells (hs ++ told s.register e d ∷ []) name p
  tells_on d name q p silence f n t = record {
    active = (t.active.0, writes_before hs (told s.register e d ∷ []) t.active.0 _ (subst (λ k. Writes hs t.active.0 (lines.Active name k)) (sym f) t.active.1));
    one_epoch = λ k j x. elim (writes_cases hs (told s.register e d) j _ x) [ inl o ↦ t.one_epoch k j o ∙ sym f | inr o ↦ absurd (silence k (line_of d _ (λ h. absurd cc) o.1)) ];
    appended = λ m lo hi. let z = t.appended m (subst (λ k. numbered k 1 ≤ m) f lo) (subst (λ k. m < numbered k (next_esn q)) f (subst (λ k. m < numbered p.epoch k) n hi)) in (z.0, writes_before hs (told s.register e d ∷ []) z.0 _ z.1);
  }

  none_on : (d : Done) (name : List ℕ) → ((k : ℕ) → In (lines.Active name k) d.lines → ⊥) → ToldOf hs name None → ToldOf (hs ++ told s.register e d ∷ []) name None
  none_on d name silence t k j x = elim (writes_cases hs (told s.register e d) j _ x) [ inl o ↦ t k j o | inr o ↦ silence k (line_of d _ (λ h. absurd cc) o.1) ]

  other_on : (d : Done) (name : List ℕ) (o : Option Sequencer) → ((k : ℕ) → In (lines.Active name k) d.lines → ⊥) → ToldOf hs name o → ToldOf (hs ++ told s.register e d ∷ []) name o
  other_on d name None silence t = none_on d name silence t
  other_on d name (Some q) silence t = tells_on d name q q silence refl refl t

  -- sequencers stay
  all_on : (d : Done) → d.state.sequencers ≡ s.sequencers → NoneActive d.lines → AllTell (hs ++ told s.register e d ∷ []) d.state.sequencers
  all_on d q silence name = subst (λ (m : List (List ℕ × Sequencer)). ToldOf (hs ++ told s.register e d ∷ []) name (find_named name m)) (sym q) (other_on d name (find_named name s.sequencers) (silence name) (A name))

  -- one goes on
  one_on : (d : Done) (name : List ℕ) (p : Sequencer) → d.state.sequencers ≡ put_named name p s.sequencers → ((t : List ℕ) → same t name ≡ false → (k : ℕ) → In (lines.Active t k) d.lines → ⊥) → Tells (hs ++ told s.register e d ∷ []) name p → AllTell (hs ++ told s.register e d ∷ []) d.state.sequencers
  one_on d name p z silence k t = subst (λ (m : List (List ℕ × Sequencer)). ToldOf (hs ++ told s.register e d ∷ []) t (find_named t m)) (sym z) (elim (named_cases t name p s.sequencers) [
    | inl a ↦ subst (ToldOf (hs ++ told s.register e d ∷ []) t) (sym a.1) (subst (λ v. Tells (hs ++ told s.register e d ∷ []) v p) (sym a.0) k)
    | inr a ↦ subst (ToldOf (hs ++ told s.register e d ∷ []) t) (sym a.1) (other_on d t (find_named t s.sequencers) (silence t a.0) (A t))
  ])

  named : (name : List ℕ) (q : Sequencer) → find_named name s.sequencers ≡ Some q → Tells hs name q
  named name q f = subst (ToldOf hs name) f (A name)

  none_active : (g : Group) (ls : List Line) → (g ≡ OfNumbers → ⊥) → AllOf g ls → NoneActive ls
  none_active g ls n a name k i = n (sym (a _ i))

  -- ---- steps that say nothing of numbers ----
  silent : (g : Group) (d : Done) → (g ≡ OfNumbers → ⊥) → (g ≡ OfActs → ⊥) → AllOf g d.lines → d.state.sequencers ≡ s.sequencers → StepTells hs s e d
  silent g d n m a q = record {
    tell = all_on d q (none_active g d.lines n a);
    one = few d.lines (no_numbers g d.lines n a);
    appended = λ name k i. absurd (n (sym (a _ i)));
    acked = λ name k i. absurd (m (sym (a _ i)));
    released = λ name k i. absurd (m (sym (a _ i)));
  }

  nodes : (d : Done) → AllOf OfNodes d.lines → d.state.sequencers ≡ s.sequencers → StepTells hs s e d
  nodes d a q = silent OfNodes d (λ h. cc) (λ h. cc) a q

  quiets : (d : Done) → ((x : Line) → In x d.lines → is_quiet x ≡ true) → d.state.sequencers ≡ s.sequencers → StepTells hs s e d
  quiets d q z = record {
    tell = all_on d z (λ name k i. let u = q _ i in cc);
    one = few d.lines (quiet_numbers d.lines q);
    appended = λ name k i. absurd (let u = q _ i in cc);
    acked = λ name k i. absurd (let u = q _ i in cc);
    released = λ name k i. absurd (let u = q _ i in cc);
  }

  one_quiet : (x : Line) → is_quiet x ≡ true → (y : Line) → In y (x ∷ []) → is_quiet y ≡ true
  one_quiet x h y i = subst (λ z. is_quiet z ≡ true) (sym (only y x i)) h

  -- ---- sequencers ----
  waited : (name : List ℕ) (q : Sequencer) (k : Called) → find_named name s.sequencers ≡ Some q → AcksWaiting q k → (n : ℕ) → In n k.acts.acked → (j : ℕ) × Writes hs j (lines.Appended name n)
  waited name q k f w n i =
      let p = w n i in
      let b = row_bounds (numbered q.epoch (q.lng + 1)) q.appends (n, p.0) (C name q f).row (find_in n q.appends p.0 p.1) in
      let lo = b.0 in let hi = b.1 in
      (named name q f).appended n (omega arith) (omega arith)

  acted : (f : List ℕ) (name : List ℕ) (q : Sequencer) (k : Called) (d : Done) → d.lines ≡ Step.acted_lines name q k.acts → d.state.sequencers ≡ put_named name k.acts.sequencer s.sequencers → find_named name s.sequencers ≡ Some q
      → k.acts.sequencer.epoch ≡ q.epoch → next_esn k.acts.sequencer ≡ next_esn q → AcksWaiting q k → StepTells hs s e d
  acted f name q k d l z g x y w =
      let a : AllOf OfActs d.lines = subst (λ (ls : List Line). AllOf OfActs ls) (sym l) (acted_of name q k.acts) in
      record {
        tell = one_on d name k.acts.sequencer z (λ t o. none_active OfActs d.lines (λ h. cc) a t) (tells_on d name q k.acts.sequencer (none_active OfActs d.lines (λ h. cc) a name) x y (named name q g));
        one = few d.lines (no_numbers OfActs d.lines (λ h. cc) a);
        appended = λ t n i. absurd (let u = a _ i in cc);
        acked = λ t n i. let u = acked_line name q k.acts t n (subst (λ (ls : List Line). In (lines.Acked t n) ls) l i) in subst (λ v. (j : ℕ) × Writes hs j (lines.Appended v n)) (sym u.0) (waited name q k g w n u.1);
        released = λ t n i. let u = released_line name q k.acts t n (subst (λ (ls : List Line). In (lines.Released t n) ls) l i) in
            (k.acts.sequencer, ap (find_named t) z ∙ subst (λ v. find_named v (put_named name k.acts.sequencer s.sequencers) ≡ Some k.acts.sequencer) (sym u.0) (there name k.acts.sequencer), u.1, active_before t u.0);
      } where
        -- its epoch is the one that it had
        active_before : (t : List ℕ) → t ≡ name → (j : ℕ) × Writes hs j (lines.Active t k.acts.sequencer.epoch)
        active_before t e = let a = (named name q g).active in (a.0, subst (λ v. Writes hs a.0 (lines.Active v k.acts.sequencer.epoch)) (sym e) (subst (λ v. Writes hs a.0 (lines.Active name v)) (sym x) a.1))

        there : (t : List ℕ) (p : Sequencer) → find_named t (put_named t p s.sequencers) ≡ Some p
        there t p = elim (named_cases t t p s.sequencers) [ inl u ↦ u.1 | inr u ↦ absurd (let v : true ≡ false = sym (same-self t) ∙ u.0 in cc) ]

  -- another name's line
  other_line : (f : List ℕ → Line) (t name : List ℕ) (k : ℕ) → ((u : List ℕ) → lines.Active t k ≡ f u → t ≡ u) → same t name ≡ false → In (lines.Active t k) (f name ∷ []) → ⊥
  other_line f t name k h o i = let x : t ≡ name = h name (only _ _ i) in let y : same t t ≡ false = subst (λ u. same t u ≡ false) (sym x) o in let z : true ≡ false = sym (same-self t) ∙ y in cc

  appends_on : (name : List ℕ) (q : Sequencer) (payload : List ℕ) (d : Done) → d.lines ≡ lines.Appended name (numbered q.epoch (next_esn q)) ∷ [] → d.state.sequencers ≡ put_named name (appended q payload) s.sequencers
      → next_esn (appended q payload) ≡ next_esn q + 1 → next_esn q ≤ last_esn → find_named name s.sequencers ≡ Some q → StepTells hs s e d
  appends_on name q payload d l z n small g = record {
    tell = one_on d name (appended q payload) z (λ t o k i. none t k i) (record {
      active = (t.active.0, writes_before hs (told s.register e d ∷ []) t.active.0 _ t.active.1);
      one_epoch = λ k j x. elim (writes_cases hs (told s.register e d) j _ x) [ inl o ↦ t.one_epoch k j o | inr o ↦ absurd (none name k (line_of d _ (λ h. absurd cc) o.1)) ];
      appended = λ m lo hi. elim (cases_Bool (nat_lt m (numbered q.epoch (next_esn q)))) [
        | inl u ↦ (let w = t.appended m lo (ltb-true _ _ u) in (w.0, writes_before hs (told s.register e d ∷ []) w.0 _ w.1))
        | inr u ↦ (let v = ltb-false m (numbered q.epoch (next_esn q)) u in let x : numbered q.epoch (next_esn q) ≡ m = omega arith in
            (length hs, subst (λ k. Writes (hs ++ told s.register e d ∷ []) (length hs) (lines.Appended name k)) x here))
      ];
    });
    one = subst (λ (ls : List Line). length (numbers_in ls) ≤ 1) (sym l) (omega arith);
    appended = λ t m i. (let x = only _ _ (subst (λ (ls : List Line). In (lines.Appended t m) ls) l i) in let y : t ≡ name = cc in let v : m ≡ numbered q.epoch (next_esn q) = cc in (q, subst (λ k. find_named k s.sequencers ≡ Some q) (sym y) g, omega arith));
    acked = λ t m i. absurd (let x = only _ _ (subst (λ (ls : List Line). In (lines.Acked t m) ls) l i) in cc);
    released = λ t m i. absurd (let x = only _ _ (subst (λ (ls : List Line). In (lines.Released t m) ls) l i) in cc);
  } where
    t : Tells hs name q
    t = named name q g

    none : NoneActive d.lines
    none a k i = let x = only _ _ (subst (λ (ls : List Line). In (lines.Active a k) ls) l i) in cc

    here : Writes (hs ++ told s.register e d ∷ []) (length hs) (lines.Appended name (numbered q.epoch (next_esn q)))
    here = let y = slice_get-In _ _ (finish_In d _ (subst (λ (ls : List Line). In (lines.Appended name (numbered q.epoch (next_esn q))) ls) (sym l) (inl refl))) in (told s.register e d, slice_get_last (told s.register e d) hs [], y.0, y.1)

  activates_on : (name : List ℕ) (epoch : ℕ) (p : Sequencer) (d : Done) → d.lines ≡ lines.Active name epoch ∷ [] → d.state.sequencers ≡ put_named name p s.sequencers → p.epoch ≡ epoch → next_esn p ≡ 1 → find_named name s.sequencers ≡ None → StepTells hs s e d
  activates_on name epoch p d l z f n g = record {
    tell = one_on d name p z (λ t o k i. other_line (λ u. lines.Active u epoch) t name k (λ u h. (let y : t ≡ u = cc in y)) o (subst (λ (ls : List Line). In (lines.Active t k) ls) l i)) (record {
      active = (length hs, subst (λ k. Writes (hs ++ told s.register e d ∷ []) (length hs) (lines.Active name k)) (sym f) here);
      one_epoch = λ k j x. elim (writes_cases hs (told s.register e d) j _ x) [
        | inl o ↦ absurd (subst (ToldOf hs name) g (A name) k j o)
        | inr o ↦ (let y = only _ _ (subst (λ (ls : List Line). In (lines.Active name k) ls) l (line_of d _ (λ h. absurd cc) o.1)) in let v : k ≡ epoch = cc in v ∙ sym f)
      ];
      appended = λ m lo hi. absurd (let v : m < numbered p.epoch 1 = subst (λ k. m < numbered p.epoch k) n hi in omega arith);
    });
    one = subst (λ (ls : List Line). length (numbers_in ls) ≤ 1) (sym l) (omega arith);
    appended = λ t m i. absurd (let x = only _ _ (subst (λ (ls : List Line). In (lines.Appended t m) ls) l i) in cc);
    acked = λ t m i. absurd (let x = only _ _ (subst (λ (ls : List Line). In (lines.Acked t m) ls) l i) in cc);
    released = λ t m i. absurd (let x = only _ _ (subst (λ (ls : List Line). In (lines.Released t m) ls) l i) in cc);
  } where
    here : Writes (hs ++ told s.register e d ∷ []) (length hs) (lines.Active name epoch)
    here = let y = slice_get-In _ _ (finish_In d _ (subst (λ (ls : List Line). In (lines.Active name epoch) ls) (sym l) (inl refl))) in (told s.register e d, slice_get_last (told s.register e d) hs [], y.0, y.1)

  dropped : (name : List ℕ) (q p : Sequencer) (d : Done) → d.lines ≡ [] → d.state.sequencers ≡ put_named name p s.sequencers → p.epoch ≡ q.epoch → next_esn p ≡ next_esn q → find_named name s.sequencers ≡ Some q → StepTells hs s e d
  dropped name q p d l z x y g = record {
    tell = one_on d name p z (λ t o. none t) (tells_on d name q p (none name) x y (named name q g));
    one = subst (λ (ls : List Line). length (numbers_in ls) ≤ 1) (sym l) (omega arith);
    appended = λ t n i. absurd (subst (λ (ls : List Line). In (lines.Appended t n) ls) l i);
    acked = λ t n i. absurd (subst (λ (ls : List Line). In (lines.Acked t n) ls) l i);
    released = λ t n i. absurd (subst (λ (ls : List Line). In (lines.Released t n) ls) l i);
  } where
    none : NoneActive d.lines
    none t k i = subst (λ (ls : List Line). In (lines.Active t k) ls) l i

  -- ---- every event ----
  handled : (f : List ℕ) (x : Node) (n : ℕ) (m : Msg) (o : Option Op) (a : Option Body) → StepTells hs s e (Step.handles (with_node (refreshed s f) n x) n m o a)
  handled f x n m None a = nodes (Step.handles (with_node (refreshed s f) n x) n m None a) (none_of OfNodes) refl
  handled f x n m (Some o) a = nodes (Step.handles (with_node (refreshed s f) n x) n m (Some o) a) (kept_of n [] (keep_end (node_at (with_node (refreshed s f) n x) n) o) (none_of OfNodes)) refl

  ticked : (n l : ℕ) (t : Ticked) → StepTells hs s e (Step.ticks_as c s n l t)
  ticked n l (Cleans k y) = nodes (Step.ticks_as c s n l (Cleans k y)) (kept_of n [] (keep_end (node_at s n) (ops.Clean l k y)) (none_of OfNodes)) refl
  ticked n l Rebuilt = nodes (Step.ticks_as c s n l Rebuilt) (kept_of n (lines.NodeRebuilt n l ∷ []) (keep_end (node_at s n) (ops.Refilled l)) (one_of (lines.NodeRebuilt n l))) refl
  ticked n l (Asks from) = nodes (Step.ticks_as c s n l (Asks from)) (none_of OfNodes) refl
  ticked n l Nothing = nodes (Step.ticks_as c s n l Nothing) (none_of OfNodes) refl

  appended_one : (q : Sequencer) (payload : List ℕ) → next_esn (appended q payload) ≡ next_esn q + 1
  appended_one q payload = let l = length-append q.appends ((numbered q.epoch (next_esn q), fresh_append payload) ∷ []) in omega arith

  bare_epoch : (looks : ℕ → View) (p : Spec) (l epoch lce : ℕ) → ((activated looks p l epoch lce).epoch ≡ epoch) × (next_esn (activated looks p l epoch lce) ≡ 1)
  unfolding activated
  bare_epoch looks p l epoch lce = (refl, omega arith)

  pub tell_cases : Cases c s e (λ d m. StepTells hs s e d)
  tell_cases = record {
    still = λ f older i. nodes _ (none_of OfNodes) refl;
    says = λ x q. quiets _ (one_quiet x q) refl;
    node_hears = λ f older n m i t v o. handled f (Step.releases (node_at s n) m.log m.body) n m (Step.node_handles n (node_at s n) m).op (Step.node_handles n (node_at s n) m).answer;
    loads = λ n ls q a o. quiets _ q refl;
    draw_fails = λ n a. nodes _ (one_of (lines.NodeRefusedRegister n)) refl;
    formats = λ n r g a v i. nodes _ (kept_of n (Step.format_lines c n r) (keep_end (node_at (with_register (loaded s n) r) n) (ops.Format (generation_of r n) (epochs_in r.logs))) (format_of c n r)) refl;
    ticks = λ n l t v i o. ticked n l t;
    stops = λ n a. nodes _ (one_of (lines.NodeDown n)) refl;
    wipes = λ n. nodes _ (one_of (lines.NodeWiped n)) refl;
    faults = λ n f o. nodes _ (none_of OfNodes) refl;
    sets = λ l r x set h. silent OfSets _ (λ q. cc) (λ q. cc) (one_of (lines.Set l r x set)) refl;
    arms = λ k done o. nodes _ (none_of OfNodes) refl;
    hears = λ f older name q m i t l v o. let x = reply_continues c s q (C name q v.named).row name (Step.sender_node m.from) m.body v.there in
        acted f name q (reply_call c s q (Step.sender_node m.from) m.body) _ refl refl v.named x.epoch x.count (reply_acks c s q name (Step.sender_node m.from) m.body v.there);
    retries = λ again name q v o. let x = retry_continues c s q (C name q v.named).row v.there in
        acted s.network.fresh name q (announced again (retry_call c s q)) _ refl refl v.named x.epoch x.count (retry_acks c s q v.there);
    appends = λ name q p v a i. appends_on name q p _ refl refl (appended_one q p) (C name q v.named).small v.named;
    trims = λ name q t v b. silent OfTrims _ (λ h. cc) (λ h. cc) (one_of (lines.Trimmed name t)) refl;
    drops = λ name q v o. dropped name q (Step.dropped q) _ refl refl refl refl v.named;
    activates = λ name l r g n i x. let z = bare_epoch (looks_at c r l) (Step.spec_set c s l) l (epochs_of r l).epoch (lce_of r l) in activates_on name (epochs_of r l).epoch (activated (looks_at c r l) (Step.spec_set c s l) l (epochs_of r l).epoch (lce_of r l)) _ refl refl z.0 z.1 n;
    swaps = λ n m l x r q i. quiets _ (one_quiet x q) refl;
    activate_fails = λ name l x g q. quiets _ (one_quiet x q) refl;
    answers = λ f older name d m i t v o. silent OfItems _ (λ h. cc) (λ h. cc) (items_of _ name _ (on_answer (looks_at c s.register d.log) d (Step.sender_node m.from) m.body).items) refl;
    polls = λ name d v o. nodes _ (none_of OfNodes) refl;
    opens = λ style name l from until o x. nodes _ (none_of OfNodes) refl;
  }

-- ---- along a run ----

-- what a longer run says of lines before
release_before : (hs gs : List Happened) (s : List ℕ) (n k e : ℕ) → ReleaseTold hs s n k e → ReleaseTold (hs ++ gs) s n k e
release_before hs gs s n k e h = (h.0, λ m lo hi. let z = h.1 m lo hi in (z.0, z.1, writes_before hs gs z.0 _ z.2))

one_finished : (d : Done) → length (numbers_in d.lines) ≤ 1 → length (numbers_in (finish d).lines) ≤ 1
one_finished d h = subst (λ (ns : List ℕ). length ns ≤ 1) (sym (filter_finish number_appended plain_number d)) h

abbrev pub Numbering : Config → List Happened → World → Type 0
Numbering c hs w = (BaseGiven c hs w × Along c hs w) × (AllLines hs w × SetsFine w.state)

module _ (c : Config) (hs : List Happened) (w : World) (e : Move) (B : Numbering c hs w) (N : Numbering c (hs ++ step_happened c w.state e ∷ []) (after_step c w e)) (T : NumbersTold hs w) where
  abbrev next : List Happened
  next = hs ++ step_happened c w.state e ∷ []

  step : StepTells hs w.state e (moves c w.state e)
  step = dispatch c w.state e (λ d m. StepTells hs w.state e d) B.0.0.0.0.0 (tell_cases c hs w.state e T.tell (λ name q f. counts_of c hs w B.0.0.0 name q f))

  -- a line of before, or of this step
  line_by : (k : ℕ) (x : Line) → (group x ≡ OfMessages → ⊥) → Writes next k x → Writes hs k x ⊎ ((k ≡ length hs) × In x (moves c w.state e).lines)
  line_by k x n o = elim (writes_cases hs (step_happened c w.state e) k x o) [ inl a ↦ inl a | inr a ↦ inr (a.0, line_of (moves c w.state e) x n a.1) ]

  below : (k : ℕ) (x : Line) → Writes hs k x → k < length hs
  below k x o = slice_get_below o.0 hs k o.1

  before : (k : ℕ) (x : Line) → Writes hs k x → Writes next k x
  before k x o = writes_before hs (step_happened c w.state e ∷ []) k x o

  tell_next : AllTell next (after_step c w e).state.sequencers
  unfolding finish
  tell_next = step.tell

  acked_next : AcksWereAppended next
  acked_next s n k o = elim (line_by k _ (λ h. cc) o) [
    | inl a ↦ (let z = T.acked s n k a in (z.0, z.1, before z.0 _ z.2))
    | inr a ↦ (let z = step.acked s n a.1 in let b = below z.0 _ z.1 in (z.0, omega (arith, a.0), before z.0 _ z.1))
  ]

  -- a number of a log is of one sequencer
  one_name : (s t : List ℕ) (m : ℕ) (q : Sequencer) → find_named s (after_step c w e).state.sequencers ≡ Some q → numbered q.epoch 1 ≤ m → m < numbered q.epoch last_esn → OfLog next q.log t → (j : ℕ) → Writes next j (lines.Appended t m) → s ≡ t
  one_name s t m q f lo hi o j a = by_name (find_named t (after_step c w e).state.sequencers) refl (N.0.0.0.0.1.counted t) where
    same_epoch : (x y : ℕ) → numbered x 1 ≤ m → m < numbered x last_esn → numbered y 1 ≤ m → m < numbered y last_esn → x ≡ y
    same_epoch x y a b g h = elim (cases_order x y) [ inl z ↦ z | inr (inl z) ↦ absurd (omega arith) | inr (inr z) ↦ absurd (omega arith) ]

    by_name : (x : Option Sequencer) → find_named t (after_step c w e).state.sequencers ≡ x → CountedBy next t x → s ≡ t
    by_name None g u = absurd (u.silent m j a)
    by_name (Some p) g u = let b = u.below m j a in let z = u.small in let b0 = b.0 in let b1 = b.1 in
        N.0.0.0.0.1.epochs.once s t q p f g (Some_inj (sym o ∙ u.known)) (same_epoch q.epoch p.epoch lo hi b0 (omega arith))

  -- what is released now
  release_next : (s : List ℕ) (n : ℕ) (q : Sequencer) → find_named s (after_step c w e).state.sequencers ≡ Some q → n ≡ released_of q → ReleaseTold next s n (length hs) q.epoch
  release_next s n q f r =
      let u = counts_of c next (after_step c w e) N.0.0.0 s q f in
      let F = N.1.0 s q f in
      subst (λ k. ReleaseTold next s k (length hs) q.epoch) (sym r) (released_lines s q f F u) where
        acked_by : (s : List ℕ) (q : Sequencer) → find_named s (after_step c w e).state.sequencers ≡ Some q → (m : ℕ) → numbered q.epoch 1 ≤ m → m < numbered q.epoch last_esn → Acked next q.log m → (i : ℕ) × (i ≤ length hs) × Writes next i (lines.Acked s m)
        acked_by s q f m lo hi a =
            let z = acked_next a.1.name m a.0 a.1.told in
            let name : s ≡ a.1.name = one_name s a.1.name m q f lo hi a.1.of_log z.0 z.2 in
            let b = slice_get_below a.1.told.0 next a.0 a.1.told.1 in let n = length-append hs (step_happened c w.state e ∷ []) in
            (a.0, omega arith, subst (λ t. Writes next a.0 (lines.Acked t m)) (sym name) a.1.told)

        released_lines : (s : List ℕ) (q : Sequencer) → find_named s (after_step c w e).state.sequencers ≡ Some q → LinesFine next q → Counts next s q → ReleaseTold next s (released_of q) (length hs) q.epoch
        released_lines s q f F u = cond_both (nat_lt (q.lce + 1) q.epoch) (epoch_end q.lce) (numbered q.epoch q.lng) (λ k. ReleaseTold next s k (length hs) q.epoch)
            (λ t. let z = ltb-true _ _ t in (omega arith, λ m lo hi. absurd (omega arith)))
            (λ t. let z = u.small in (omega arith, λ m lo hi. acked_by s q f m lo (omega arith) (subst (Acked next q.log) (let v : numbered q.epoch (esn_of m) ≡ m = omega arith in v) (F.acked (esn_of m) (omega arith) (omega arith)))))

  named_next : (s : List ℕ) (q : Sequencer) → find_named s (moves c w.state e).state.sequencers ≡ Some q → find_named s (after_step c w e).state.sequencers ≡ Some q
  unfolding finish
  named_next s q f = f

  told_next : NumbersTold next (after_step c w e)
  told_next = record {
    tell = tell_next;
    one = λ k h g. elim (slice_get_end h (step_happened c w.state e) hs k g) [ inl a ↦ T.one k h a | inr a ↦ subst (λ (x : Happened). length (numbers_in x.lines) ≤ 1) (sym a.1) (one_finished (moves c w.state e) step.one) ];
    appended = λ s n k o. elim (line_by k _ (λ h. cc) o) [
      | inl a ↦ (let z = T.appended s n k a in (z.0, z.1, before z.0 _ z.2))
      | inr a ↦ (let z = step.appended s n a.1 in let t : Tells hs s z.0 = subst (ToldOf hs s) z.1 (T.tell s) in let b = below t.active.0 _ t.active.1 in
          (t.active.0, omega (arith, a.0), before t.active.0 _ (subst (λ x. Writes hs t.active.0 (lines.Active s x)) (sym z.2) t.active.1)))
    ];
    acked = acked_next;
    released = λ s n k o. elim (line_by k _ (λ h. cc) o) [
      | inl a ↦ (let z = T.released s n k a in (z.0, z.1, z.2, before z.1 _ z.3, release_before hs (step_happened c w.state e ∷ []) s n k z.0 z.4))
      | inr a ↦ (let z = step.released s n a.1 in let b = below z.3.0 _ z.3.1 in
          (z.0.epoch, z.3.0, omega (arith, a.0), before z.3.0 _ z.3.1, subst (λ i. ReleaseTold next s n i z.0.epoch) (sym a.0) (release_next s n z.0 (named_next s z.0 z.1) z.2)))
    ];
  }

start_told : (c : Config) → NumbersTold [] (begin c)
unfolding find_named
start_told c = record {
  tell = λ s e j o. not_none o.1;
  one = λ k h g. absurd (not_none g);
  appended = λ s n k o. absurd (not_none o.1);
  acked = λ s n k o. absurd (not_none o.1);
  released = λ s n k o. absurd (not_none o.1);
}

numbers_kept : (c : Config) → IsInBounds c → Keeps c (λ hs w. Numbering c hs w × NumbersTold hs w)
numbers_kept c b = beside_kept c (Numbering c) NumbersTold (lines_kept c b) (start_told c) (λ hs w e B C T. told_next c hs w e B C T)

-- ---- the laws ----
module _ (c : Config) (es : List Event) (b : IsInBounds c) where
  last : (w : World) × (Numbering c (history c es) w × NumbersTold (history c es) w)
  last = at_end c (λ hs w. Numbering c hs w × NumbersTold hs w) (numbers_kept c b) es

  pub one_number : OneNumber (history c es)
  one_number = last.1.1.one

  pub acks_appended : AcksWereAppended (history c es)
  acks_appended = last.1.1.acked

  -- the epochs that are told of a name are one
  one_epoch : (s : List ℕ) (e f j k : ℕ) → Writes (history c es) j (lines.Active s e) → Writes (history c es) k (lines.Active s f) → e ≡ f
  one_epoch s e f j k x y = by_name (find_named s last.0.state.sequencers) (last.1.1.tell s) where
    by_name : (o : Option Sequencer) → ToldOf (history c es) s o → e ≡ f
    by_name None t = absurd (t e j x)
    by_name (Some q) t = t.one_epoch e j x ∙ sym (t.one_epoch f k y)

  pub numbers_have_epochs : NumbersHaveEpochs (history c es)
  numbers_have_epochs s n k x = let z = last.1.1.appended s n k x in (z, λ e j y. one_epoch s e (epoch_of n) j z.0 y z.2)

  pub releases_acked : ReleasesWereAcked (history c es)
  releases_acked s n k x = let z = last.1.1.released s n k x in ((z.0, z.1, z.2, z.3), λ e j y. subst (ReleaseTold (history c es) s n k) (one_epoch s z.0 e z.1 j z.3 y) z.4)
