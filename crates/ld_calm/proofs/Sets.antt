-- The sets that are set, fixed, swapped, shown and recovered have nodes of the configuration alone; so at most as many as there are.
use Rattle.std.proofs.Common.{◌≡◌, ◌∙◌, ◌≤◌, ℕ, ◌+◌, inl, inr, refl, ap, sym, subst, Bool, true, false, ◌||◌, ◌==◌, nat_le, nat_lt, if◌then◌else◌, List, [], ◌∷◌, length, Option, Some, None}
use Rattle.std.proofs.lemmas.Bool.{and_parts, or_cases, eqb-true}
use Rattle.std.specs.Option.{unwrap_or}
use Rattle.ld_table.specs.Table.{find, put}
use Rattle.ld_table.specs.Named.{find_named, put_named}
use Rattle.ld_table.specs.Words.{is_in, any_of, all_of}
use Rattle.ld_table.proofs.Laws.{put_cases}
use Rattle.ld_ids.specs.Set.{members}
use Rattle.ld_ids.specs.Choice.{nodes_of}
use Rattle.ld_ids.specs.declared.set.Spec.{Spec}
use Rattle.ld_config.specs.declared.config.Config.{Config}
use Rattle.ld_config.specs.Bounds.{IsInBounds, AreSpecsOf}
use Rattle.ld_msg.specs.declared.msg.Summary.{Summary}
use Rattle.ld_msg.specs.declared.msg.Msg.{Msg}
use Rattle.ld_msg.specs.declared.msg.Body.{Body}
use Rattle.ld_op.specs.declared.op.Op.{Op}
use Rattle.ld_op.specs.Ticks.{Ticked, Cleans, Rebuilt, Asks, Nothing}
use Rattle.ld_msg.specs.Digest.{Told}
use Rattle.ld_msg.specs.Register.{Register, Changed, Granted, View, Epochs, no_epochs, epochs_of, epoch_shown, lce_of, look, with_epochs, next_epoch, closed_epochs, swapped_epochs, closed_upto, activate, close, draw, swap}
use Rattle.ld_msg.specs.Sequencer.{Sequencer, Acts, Attempt, Recovery, Storing, called, activated, bare, recovery_of, begun}
use Rattle.ld_machine.specs.Config.{all_nodes, looks_at, first_spec, spec_in, has_log, has_node}
use Rattle.ld_machine.specs.State.{State, finish, node_at, with_node}
use Rattle.ld_machine.specs.World.{In}
use Rattle.ld_machine.specs.Step as Step
use Rattle.ld_machine.specs.Calm.{Move}
use Rattle.ld_safety.proofs.Lists.{Some_inj, not_none, cond_both, all_in}
use Rattle.ld_safety.proofs.Members.{in_set}
use Rattle.ld_safety.proofs.Names.{named_cases}
use Rattle.ld_safety.proofs.Traces.{Keeps, beside_kept}
use Rattle.ld_safety.proofs.Events.{Cases, dispatch, refreshed}
use Rattle.ld_safety.proofs.Base.{Base}
use Rattle.ld_safety.proofs.Swaps.{find-swapped, swapped_members, then_swapped}
use Rattle.ld_safety.proofs.RegisterSteps.{Same, activate_leaves, close_leaves, draw_leaves, swap_leaves, epochs_put, epochs_same}
use Rattle.ld_safety.proofs.SequencerSteps.{Acting, Retrying, Closing, Hearing, heard_page, heard_lost, Hearing_stored, heard_settled, heard_gone, gone_of, replied, retried}
use Rattle.ld_calm.proofs.Logs.{LogsFine, logs_kept}
use Rattle.ld_calm.proofs.Within.{subset_few}

-- each node of the set is one of the configuration
abbrev pub SpecIn : Config → Spec → Type 0
SpecIn c p = (y : ℕ) → In y (nodes_of p) → In y (all_nodes c)

is_in_list : (y : ℕ) (xs : List ℕ) → is_in y xs ≡ true → In y xs
is_in_list y [] h = absurd cc
is_in_list y (x ∷ xs) h = elim (or_cases (x == y) (is_in y xs) h) [ inl t ↦ inl (sym (eqb-true x y t)) | inr t ↦ inr (is_in_list y xs t) ]

pub spec_most : (c : Config) (p : Spec) → SpecIn c p → length (nodes_of p) ≤ length (all_nodes c)
spec_most c p h = subset_few p.set c.nodes (λ y i. in_set y (all_nodes c) (h y (is_in_list y (nodes_of p) i)))

listed_in : (c : Config) (l : ℕ) (ps : List Spec) → AreSpecsOf c.nodes ps → any_of (λ (p : Spec). p.log == l) ps ≡ true → SpecIn c (spec_in l ps)
listed_in c l [] a h = absurd cc
listed_in c l (p ∷ ps) a h = by_log (λ q. listed_in c l ps a.2 q) (p.log == l) h where
  by_log : (any_of (λ (p : Spec). p.log == l) ps ≡ true → SpecIn c (spec_in l ps)) → (b : Bool) → (b || any_of (λ (p : Spec). p.log == l) ps) ≡ true → SpecIn c (if b then p else spec_in l ps)
  by_log ih true q = λ y i. is_in_list y (all_nodes c) (a.0.within y (in_set y (nodes_of p) i))
  by_log ih false q = ih q

or_first : (c : Config) (l : ℕ) (o : Option Spec) → IsInBounds c → has_log c l ≡ true → ((p : Spec) → o ≡ Some p → SpecIn c p) → SpecIn c (unwrap_or o (first_spec c l))
or_first c l None b h g = listed_in c l c.logs b.specs h
or_first c l (Some p) b h g = g p refl

-- ---- what holds of a state ----
abbrev pub SetsIn : Config → List (ℕ × Spec) → Type 0
SetsIn c ps = (l : ℕ) (p : Spec) → find l ps ≡ Some p → SpecIn c p

abbrev pub ShownIn : Config → Register → Type 0
ShownIn c r = (l e : ℕ) (p : Spec) → find e (epochs_of r l).swapped ≡ Some p → SpecIn c p

abbrev pub RecoveryIn : Config → Option Recovery → Type 0
RecoveryIn c None = Unit {0}
RecoveryIn c (Some v) = SpecIn c v.spec

abbrev pub OneIn : Config → Sequencer → Type 0
OneIn c q = SpecIn c q.spec × RecoveryIn c q.recovery

abbrev pub AllIn : Config → List (List ℕ × Sequencer) → Type 0
AllIn c qs = (name : List ℕ) (q : Sequencer) → find_named name qs ≡ Some q → OneIn c q

put_in : (c : Config) (s : List ℕ) (x : Sequencer) (qs : List (List ℕ × Sequencer)) → AllIn c qs → OneIn c x → AllIn c (put_named s x qs)
put_in c s x qs a h t q f = elim (named_cases t s x qs) [ inl k ↦ subst (OneIn c) (Some_inj (sym k.1 ∙ f)) h | inr k ↦ a t q (sym k.1 ∙ f) ]

-- what a look shows
pub look_in : (c : Config) → IsInBounds c → (r : Register) (l e : ℕ) → ShownIn c r → has_log c l ≡ true → SpecIn c (looks_at c r l e).spec
unfolding look
look_in c b r l e S h = or_first c l (find (epoch_shown (epochs_of r l) e) (epochs_of r l).swapped) b h (S l (epoch_shown (epochs_of r l) e))

begins_in : (c : Config) (looks : ℕ → View) (q : Sequencer) (lce : ℕ) → ((e : ℕ) → SpecIn c (looks e).spec) → RecoveryIn c (recovery_of looks q lce)
begins_in c looks q lce h = cond_both (nat_lt (lce + 1) q.epoch) (Some (begun (looks (lce + 1)))) None (RecoveryIn c) (λ t. h (lce + 1)) (λ t. tt)

-- ---- one call ----
module _ (c : Config) (r : Register) (q : Sequencer) (N : OneIn c q) (L : (e : ℕ) → SpecIn c (looks_at c r q.log e).spec) where
  close_in : (a : Acts) (e : ℕ) (y : Summary) (short : Bool) → OneIn c a.sequencer → Closing r (looks_at c r q.log) a e y short (λ k. OneIn c k.acts.sequencer)
  close_in a e y short h = record {
    granted = λ n i o g. (h.0, begins_in c (looks_at c r q.log) a.sequencer e L);
    passed = λ i. h;
    behind = λ b i. (h.0, begins_in c (looks_at c r q.log) a.sequencer (lce_of r a.sequencer.log) L);
    overtaken = λ i o. h;
    failed = λ n g. h;
  }

  was_in : (v : Recovery) → q.recovery ≡ Some v → SpecIn c v.spec
  was_in v e = subst (RecoveryIn c) e N.1

  heard_in : (y : ℕ) (b : Body) (w : Recovery) (d : List Told) → Hearing q y b w d → SpecIn c w.spec
  heard_in y b w d (heard_page f from upto trim lng es e h i g t j) = was_in w e
  heard_in y b w d (heard_lost v f n round generation end e h i g j k) = subst (λ (x : Recovery). SpecIn c x.spec) (sym j) (was_in v e)

  stored_in : (y : ℕ) (b : Body) (w : Recovery) (g : Storing) → Hearing_stored q y b w g → SpecIn c w.spec
  stored_in y b w g (heard_settled f p e s m i j) = was_in w e
  stored_in y b w g (heard_gone v n round generation end e s i h j) = subst (λ (x : Recovery). SpecIn c x.spec) (sym j) (was_in v e)

  acting_in : (gone : Recovery → List ℕ) (y : ℕ) (b : Body) → Acting c r gone q y b (λ k m. OneIn c k.acts.sequencer)
  acting_in gone y b = record {
    quiet = N;
    sealed = λ n k f i l. N;
    cleaned_own = λ n s f i h. N;
    acks = λ n p f i g h m. N;
    lost_own = λ n round g end f i h. N;
    cleaned = λ v n s f e i h. (N.0, begins_in c (looks_at c r q.log) q v.epoch L);
    asks_more = λ w d asks f H a n u. (N.0, heard_in y b w d H);
    plans = λ w d loss f H p. (N.0, heard_in y b w d H);
    looks_closed = λ w d s f H u o. (N.0, begins_in c (looks_at c r q.log) q w.epoch L);
    looks_later = λ w d f H u o n. N;
    stores_on = λ w g f H t. (N.0, stored_in y b w g H);
    closes_now = λ w g f H t. close_in _ w.epoch _ _ (N.0, stored_in y b w g H);
    lost_closing = λ v s short n round g end f e h i j. (N.0, was_in v e);
  }

  retrying_in : (gone : Recovery → List ℕ) → Retrying c r gone q (λ k m. OneIn c k.acts.sequencer)
  retrying_in gone = record {
    quiet = N;
    appends = λ f. N;
    seals = λ v d f e h u. (N.0, was_in v e);
    plans = λ v d f e h p. (N.0, was_in v e);
    looks_closed = λ v d s f e h u o. (N.0, begins_in c (looks_at c r q.log) q v.epoch L);
    looks_later = λ v d f e h u o n. N;
    stores_on = λ v g f e h t. (N.0, was_in v e);
    closes_now = λ v g f e h t. close_in _ v.epoch _ _ (N.0, was_in v e);
    closes = λ v y short f e h. close_in _ v.epoch y short N;
  }

-- ---- the register ----
module _ (c : Config) (r : Register) (S : ShownIn c r) where
  by_same : (n : Register) → Same r n → ShownIn c n
  by_same n q l e p f = S l e p (ap (λ (x : Epochs). find e x.swapped) (sym (epochs_same r n l q)) ∙ f)

  by_put : (n : Register) (l : ℕ) (x : Epochs) → Same (with_epochs r l x) n → ((e : ℕ) (p : Spec) → find e x.swapped ≡ Some p → SpecIn c p) → ShownIn c n
  by_put n l x q g j e p f = elim (epochs_put r l j x) [
    | inl a ↦ g e p (ap (λ (z : Epochs). find e z.swapped) (sym (epochs_same (with_epochs r l x) n j q ∙ a.1)) ∙ f)
    | inr a ↦ S j e p (ap (λ (z : Epochs). find e z.swapped) (sym (epochs_same (with_epochs r l x) n j q ∙ a.1)) ∙ f)
  ]

  called_in : (looks : ℕ → View) (a : Acts) (ts : List Attempt) → ShownIn c (called looks r a ts).register
  called_in looks a [] = S
  called_in looks a (t ∷ ts) = elim (close_leaves r a.sequencer.log t.epoch t.summary t.short) [
    | inl z ↦ by_same (close r a.sequencer.log t.epoch t.summary t.short).register z
    | inr z ↦ by_put (close r a.sequencer.log t.epoch t.summary t.short).register a.sequencer.log (closed_epochs (epochs_of r a.sequencer.log) t.epoch t.summary) z.1 (S a.sequencer.log)
  ]

  drawn_in : (n : ℕ) → ShownIn c (draw r n).register
  drawn_in n = elim (draw_leaves r n) [ inl a ↦ (λ l e p f. S l e p (ap (λ m. find e (unwrap_or (find l m) no_epochs).swapped) (sym a.0) ∙ f)) | inr a ↦ (λ l e p f. S l e p (ap (λ m. find e (unwrap_or (find l m) no_epochs).swapped) (sym a.0) ∙ f)) ]

  activated_in : (l : ℕ) (p : Spec) → SpecIn c p → ShownIn c (activate r l p).register
  activated_in l p h = elim (activate_leaves r l p) [
    | inl a ↦ by_same (activate r l p).register a
    | inr a ↦ by_put (activate r l p).register l (next_epoch (epochs_of r l) p) a.1 (λ e x f. elim (put_cases e ((epochs_of r l).epoch + 1) p (epochs_of r l).swapped) [
      | inl z ↦ subst (SpecIn c) (Some_inj (sym z.1 ∙ f)) h
      | inr z ↦ S l e x (sym z.1 ∙ f)
    ])
  ]

  swapped_in : (l upto old new : ℕ) → In new (all_nodes c) → ShownIn c (swap r l upto old new).register
  swapped_in l upto old new h = elim (swap_leaves r l upto old new) [
    | inl a ↦ by_same (swap r l upto old new).register a
    | inr a ↦ by_put (swap r l upto old new).register l (swapped_epochs (epochs_of r l) upto old new) a (λ e p f. by_found e p (nat_le e (closed_upto (epochs_of r l) upto)) (find e (epochs_of r l).swapped) refl (sym (find-swapped (closed_upto (epochs_of r l) upto) old new e (epochs_of r l).swapped) ∙ f))
  ] where
    by_found : (e : ℕ) (p : Spec) (t : Bool) (o : Option Spec) → find e (epochs_of r l).swapped ≡ o → then_swapped t old new o ≡ Some p → SpecIn c p
    by_found e p t None q f = absurd (not_none f)
    by_found e p true (Some x) q f = subst (SpecIn c) (Some_inj f) (λ y i. elim (swapped_members old new y x i) [ inl j ↦ S l e x q y j | inr j ↦ subst (λ k. In k (all_nodes c)) (sym j.0) h ])
    by_found e p false (Some x) q f = subst (SpecIn c) (Some_inj f) (S l e x q)

-- ---- every event ----
abbrev pub Sets : Config → State → Type 0
Sets c s = SetsIn c s.specs × ShownIn c s.register × AllIn c s.sequencers

module _ (c : Config) (b : IsInBounds c) (s : State) (e : Move) (F : LogsFine c s) (H : Sets c s) where
  set_put : (l r x : ℕ) (set : List Bool) → Step.can_set c l r x (members set) ≡ true → SetsIn c (put l (record { log = l; set = set; r = r; extras = x }) s.specs)
  set_put l r x set h k p f = elim (put_cases k l (record { log = l; set = set; r = r; extras = x }) s.specs) [
    | inl a ↦ subst (SpecIn c) (Some_inj (sym a.1 ∙ f)) (λ y i. let z = and_parts (has_log c l) _ h in let w = and_parts (all_of (has_node c) (members set)) _ z.1 in is_in_list y (all_nodes c) (all_in (has_node c) y (members set) w.0 i))
    | inr a ↦ H.0 k p (sym a.1 ∙ f)
  ]

  looked : (name : List ℕ) (q : Sequencer) → find_named name s.sequencers ≡ Some q → (k : ℕ) → SpecIn c (looks_at c s.register q.log k).spec
  looked name q f k = look_in c b s.register q.log k H.1 (F.0 name q f)

  set_now : (l : ℕ) → has_log c l ≡ true → SpecIn c (Step.spec_set c s l)
  set_now l g = or_first c l (find l s.specs) b g (H.0 l)

  sets_cases : Cases c s e (λ d m. Sets c d.state)
  unfolding activated
  sets_cases = record {
    still = λ f older i. H;
    says = λ x q. H;
    node_hears = λ f older n m i t v o. handled f n m (Step.node_handles n (node_at s n) m).op (Step.node_handles n (node_at s n) m).answer;
    loads = λ n ls q b o. H;
    draw_fails = λ n b. (H.0, drawn_in c s.register H.1 n, H.2);
    formats = λ n r g b v i. (H.0, subst (λ (d : Changed). ShownIn c d.register) i (drawn_in c s.register H.1 n), H.2);
    ticks = λ n l t v i o. ticked n l t;
    stops = λ n b. H;
    wipes = λ n. H;
    faults = λ n f o. H;
    sets = λ l r x set g. (set_put l r x set g, H.1, H.2);
    swaps = λ n m l x r q i. (H.0, swapped_in c s.register H.1 l _ m n (is_in_list n (all_nodes c) r.node), H.2);
    arms = λ k done o. H;
    hears = λ f older name q m i t l v o. (H.0, called_in c s.register H.1 _ _ _, put_in c name _ s.sequencers H.2 (replied c s name q v.there (Step.sender_node m.from) m.body (λ k n. OneIn c k.acts.sequencer) (acting_in c s.register q (H.2 name q v.named) (looked name q v.named) (gone_of s q) (Step.sender_node m.from) m.body)));
    retries = λ again name q v o. (H.0, called_in c s.register H.1 _ _ _, put_in c name _ s.sequencers H.2 (retried c s q v.there (λ k n. OneIn c k.acts.sequencer) (retrying_in c s.register q (H.2 name q v.named) (looked name q v.named) (gone_of s q))));
    appends = λ name q p v a i. (H.0, H.1, put_in c name _ s.sequencers H.2 (H.2 name q v.named));
    trims = λ name q t v b. H;
    drops = λ name q v o. (H.0, H.1, put_in c name _ s.sequencers H.2 (H.2 name q v.named));
    activates = λ name l k g n i x. activates name l k g i;
    activate_fails = λ name l x g q. (H.0, activated_in c s.register H.1 l (Step.spec_set c s l) (set_now l g), H.2);
    answers = λ f older name d m i t v o. H;
    polls = λ name d v o. H;
    opens = λ style name l from until o x. H;
  } where
    handled : (f : List ℕ) (n : ℕ) (m : Msg) (o : Option Op) (a : Option Body) → Sets c (Step.handles (with_node (refreshed s f) n (Step.releases (node_at s n) m.log m.body)) n m o a).state
    handled f n m None a = H
    handled f n m (Some o) a = H

    ticked : (n l : ℕ) (t : Ticked) → Sets c (Step.ticks_as c s n l t).state
    ticked n l (Cleans k y) = H
    ticked n l Rebuilt = H
    ticked n l (Asks from) = H
    ticked n l Nothing = H

    activates : (name : List ℕ) (l : ℕ) (k : Register) → has_log c l ≡ true → activate s.register l (Step.spec_set c s l) ≡ record { register = k; answer = Granted } → Sets c (Step.activated_as c s name l k (epochs_of k l).epoch (lce_of k l)).state
    activates name l k g i = let R : ShownIn c k = subst (λ (d : Changed). ShownIn c d.register) i (activated_in c s.register H.1 l (Step.spec_set c s l) (set_now l g)) in
        (H.0, R, put_in c name _ s.sequencers H.2 (set_now l g, begins_in c (looks_at c k l) (bare (Step.spec_set c s l) l (epochs_of k l).epoch (lce_of k l)) (lce_of k l) (λ e. look_in c b k l e R g)))

-- in every run
pub sets_kept : (c : Config) → IsInBounds c → Keeps c (λ hs w. (Base c hs w × LogsFine c w.state) × Sets c w.state)
unfolding finish find_named find
sets_kept c b = beside_kept c (λ hs w. Base c hs w × LogsFine c w.state) (λ hs w. Sets c w.state) (logs_kept c) ((λ l p f. absurd (not_none f)), (λ l e p f. absurd (not_none f)), (λ n q f. absurd (not_none f)))
    (λ hs w e B n p. dispatch c w.state e (λ d m. Sets c (finish d).state) B.0.0.0 (sets_cases c b w.state e B.1 p))
