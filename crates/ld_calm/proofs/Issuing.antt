-- In every run each point that was issued has its line; so a calm's bound is at most what the lines tell.
use Rattle.std.proofs.Common.{◌≡◌, ◌∙◌, ◌≤◌, ◌<◌, ℕ, suc, ◌+◌, ◌*◌, inl, inr, refl, ap, Bool, true, false, ◌&&◌, ◌==◌, if◌then◌else◌, List, [], ◌∷◌, ◌++◌, length, Option, Some, None, is_some, arith}
use Rattle.std.proofs.lemmas.Bool.{cases_Bool, eqb-true, eq-eqb}
use Rattle.std.proofs.Math.Nat.{mul-le-mul_left}
use Rattle.ld_table.specs.Named.{find_named}
use Rattle.ld_table.specs.Words.{how_many}
use Rattle.ld_ids.specs.Set.{members_from}
use Rattle.ld_ids.specs.Choice.{nodes_of}
use Rattle.ld_ids.specs.declared.set.Spec.{Spec}
use Rattle.ld_config.specs.declared.config.Config.{Config}
use Rattle.ld_transcript.specs.declared.line.Line.{Line}
use Rattle.ld_transcript.specs.declared.line.Line.TheVariants as lines
use Rattle.ld_msg.specs.declared.msg.Who.{Who}
use Rattle.ld_msg.specs.declared.msg.Who.TheVariants as whos
use Rattle.ld_msg.specs.declared.msg.Msg.{Msg}
use Rattle.ld_msg.specs.declared.msg.Body.{Body}
use Rattle.ld_msg.specs.declared.msg.Body.TheVariants as bodies
use Rattle.ld_msg.specs.Network.{Network, send, send_all, posted}
use Rattle.ld_msg.specs.Register.{epochs_of, lce_of}
use Rattle.ld_msg.specs.Sequencer.{Sequencer, Called, activated, released_of, to_each}
use Rattle.ld_op.specs.declared.op.Op.{Op}
use Rattle.ld_op.specs.Plain.{log_of}
use Rattle.ld_op.specs.Handles.{answer_message}
use Rattle.ld_op.specs.Ticks.{Ticked, Cleans, Rebuilt, Asks, Nothing, node_asks}
use Rattle.ld_machine.specs.Config.{all_nodes, looks_at}
use Rattle.ld_machine.specs.State.{State, Done, finish, node_at, with_node}
use Rattle.ld_machine.specs.World.{World}
use Rattle.ld_machine.specs.Facts.{Happened, sequencer_log, OfLog}
use Rattle.ld_machine.specs.Step as Step
use Rattle.ld_machine.specs.Calm as Calm
use Rattle.ld_machine.specs.Calm.{Move, announcements, numbers_given, is_trim_to, points_issued, log_bound, logs_bound, calm_bound, is_live, is_open_for}
use Rattle.ld_machine.specs.Run.{step_happened}
use Rattle.ld_safety.specs.OneRun.{lines_in}
use Rattle.ld_safety.proofs.Lists.{cond_both, how_many-yes, how_many-no, count_mono}
use Rattle.ld_safety.proofs.Traces.{Keeps, beside_kept}
use Rattle.ld_safety.proofs.Steps.{told}
use Rattle.ld_safety.proofs.Given.{of_log_grows}
use Rattle.ld_safety.proofs.Events.{Cases, dispatch, refreshed, announced, retry_call}
use Rattle.ld_safety.proofs.Base.{Base, base_kept, counts_of}
use Rattle.ld_safety.proofs.LostReads.{read_on, poll_are}
use Rattle.ld_calm.specs.Lines.{is_log, trims_of, appended_lines, trimmed_lines, told_bound, told_bounds}
use Rattle.ld_calm.proofs.Deliveries.{reply_call}
use Rattle.ld_calm.proofs.Trimless.{NoTrims, NoneTrims, ActsFree, FreeOf, none_free, posted_free, answer_free, node_asks_free, handled_free, acted_free, reply_free, retry_free, each_free, both, recovers_free}
use Rattle.ld_calm.proofs.Steady.{if_written, ask_free, no_trim_to}
use Rattle.ld_calm.proofs.Counting.{lines_more, finished_more}

-- ---- messages ----

no_trims : (l n : ℕ) (ms : List Msg) → FreeOf ms → how_many (is_trim_to l n) ms ≡ 0
no_trims l n [] h = refl
no_trims l n (m ∷ ms) h = how_many-no (is_trim_to l n) m ms (no_trim_to l n m (h m (inl refl))) ∙ no_trims l n ms (λ x i. h x (inr i))

sent_more : (p : Msg → Bool) (w : Network) (ms : List Msg) → how_many p (send_all w ms).sent ≡ how_many p w.sent + how_many p ms
sent_more p w [] = omega arith
sent_more p w (m ∷ ms) = by_head (p m) (sent_more p (send w m) ms) where
  by_head : (b : Bool) → how_many p (send_all (send w m) ms).sent ≡ (if b then suc (how_many p w.sent) else how_many p w.sent) + how_many p ms → how_many p (send_all (send w m) ms).sent ≡ how_many p w.sent + (if b then suc (how_many p ms) else how_many p ms)
  by_head true ih = omega arith
  by_head false ih = ih

-- a point goes to each node once
below_none : (k n : ℕ) (fs : List Bool) → n < k → how_many (λ y. y == n) (members_from k fs) ≡ 0
unfolding members_from
below_none k n [] l = refl
below_none k n (false ∷ fs) l = below_none (k + 1) n fs (omega arith)
below_none k n (true ∷ fs) l = elim (cases_Bool (k == n)) [
  | inl t ↦ absurd (let e = eqb-true k n t in omega arith)
  | inr t ↦ how_many-no (λ y. y == n) k (members_from (k + 1) fs) t ∙ below_none (k + 1) n fs (omega arith)
]

once_in : (k n : ℕ) (fs : List Bool) → how_many (λ y. y == n) (members_from k fs) ≤ 1
unfolding members_from
once_in k n [] = omega arith
once_in k n (false ∷ fs) = once_in (k + 1) n fs
once_in k n (true ∷ fs) = elim (cases_Bool (k == n)) [
  | inl t ↦ (let e = eqb-true k n t in omega (arith, how_many-yes (λ y. y == n) k (members_from (k + 1) fs) t, below_none (k + 1) n fs (omega arith)))
  | inr t ↦ omega (arith, how_many-no (λ y. y == n) k (members_from (k + 1) fs) t, once_in (k + 1) n fs)
]

trims_posted : (who : Who) (l n k t : ℕ) (ys : List ℕ) → how_many (is_trim_to l n) (posted who k (to_each (bodies.Trim t) ys)) ≤ (if k == l then how_many (λ y. y == n) ys else 0)
trims_posted who l n k t [] = cond_both (k == l) 0 0 (λ m. 0 ≤ m) (λ u. omega arith) (λ u. omega arith)
trims_posted who l n k t (y ∷ ys) = by_both (k == l) (y == n) (trims_posted who l n k t ys) where
  by_both : (a b : Bool) → how_many (is_trim_to l n) (posted who k (to_each (bodies.Trim t) ys)) ≤ (if a then how_many (λ z. z == n) ys else 0)
      → (if a && b then suc (how_many (is_trim_to l n) (posted who k (to_each (bodies.Trim t) ys))) else how_many (is_trim_to l n) (posted who k (to_each (bodies.Trim t) ys))) ≤ (if a then (if b then suc (how_many (λ z. z == n) ys) else how_many (λ z. z == n) ys) else 0)
  by_both true true ih = omega arith
  by_both true false ih = ih
  by_both false b ih = ih

-- ---- one step ----

-- to no node more points of a log go than lines tell
record Issues (s : State) (hs : List Happened) (d : Done) : Type 0 where
  sent : d.state.network.sent ≡ s.network.sent
  told : (l n : ℕ) → how_many (is_trim_to l n) d.sends ≤ how_many (trims_of hs l) d.lines

module _ (c : Config) (hs : List Happened) (s : State) (e : Move) (known : (name : List ℕ) (q : Sequencer) → find_named name s.sequencers ≡ Some q → OfLog hs q.log name) where
  free : (d : Done) → d.state.network.sent ≡ s.network.sent → FreeOf d.sends → Issues s hs d
  free d q f = record { sent = q; told = λ l n. let z = no_trims l n d.sends f in omega arith }

  again_free : (again : Bool) (q : Sequencer) → NoTrims (if again then announcements q else [])
  again_free true q = cond_both (is_some q.preempted) [] (to_each (bodies.Release (released_of q)) (nodes_of q.spec)) NoTrims (λ t x i. absurd i) (λ t. each_free (bodies.Release (released_of q)) (nodes_of q.spec) tt)
  again_free false q = λ x i. absurd i

  announced_free : (again : Bool) (k : Called) → ActsFree k.acts → ActsFree (announced again k).acts
  announced_free again k h = record { cleans = h.cleans; asks = both _ _ (again_free again k.acts.sequencer) h.asks; stores = h.stores }

  issues_cases : Cases c s e (λ d m. Issues s hs d)
  unfolding activated
  issues_cases = record {
    still = λ f older i. free _ refl none_free;
    says = λ x q. free _ refl none_free;
    node_hears = λ f older n m i t v o. handled f n m (Step.node_handles n (node_at s n) m).op (Step.node_handles n (node_at s n) m).answer (handled_free n (node_at s n).plain.generation (log_of (node_at s n).plain m.log) m.log _ _ m.body);
    loads = λ n ls q b o. free _ refl none_free;
    draw_fails = λ n b. free _ refl none_free;
    formats = λ n r g b v i. free _ refl (if_written _ [] none_free);
    ticks = λ n l t v i o. ticked n l t;
    stops = λ n b. free _ refl none_free;
    wipes = λ n. free _ refl none_free;
    faults = λ n f o. free _ refl none_free;
    sets = λ l r x set g. free _ refl none_free;
    swaps = λ n m l x r q i. free _ refl none_free;
    arms = λ k done o. free _ refl none_free;
    hears = λ f older name q m i t l v o. free _ refl (posted_free _ _ _ (acted_free q (reply_call c s q (Step.sender_node m.from) m.body).acts (reply_free c s name q v.there (Step.sender_node m.from) m.body)));
    retries = λ again name q v o. free _ refl (posted_free _ _ _ (acted_free q (announced again (retry_call c s q)).acts (announced_free again (retry_call c s q) (retry_free c s q v.there))));
    appends = λ name q p v a i. free _ refl (posted_free _ _ _ (each_free _ _ tt));
    trims = λ name q t v b. trimmed name q t (known name q v.named);
    drops = λ name q v o. free _ refl none_free;
    activates = λ name l r g n i x. free _ refl (posted_free _ _ _ (recovers_free (looks_at c r l) (activated (looks_at c r l) (Step.spec_set c s l) l (epochs_of r l).epoch (lce_of r l)) (lce_of r l)));
    activate_fails = λ name l x g q. free _ refl none_free;
    answers = λ f older name d m i t v o. let on = read_on (looks_at c s.register d.log) d (Step.sender_node m.from) m.body v.open_still in free _ refl (posted_free _ _ _ (λ x j. let a = on.asks x j in ask_free a.at a.from x.1 a.is));
    polls = λ name d v o. free _ refl (posted_free _ _ _ (λ x j. let a = poll_are (looks_at c s.register d.log) d x j in ask_free _ _ x.1 a.0));
    opens = λ style name l from until o x. free _ refl none_free;
  } where
    handled : (f : List ℕ) (n : ℕ) (m : Msg) (o : Option Op) (b : Option Body) → NoneTrims b → Issues s hs (Step.handles (with_node (refreshed s f) n (Step.releases (node_at s n) m.log m.body)) n m o b)
    handled f n m None b h = free _ refl (answer_free n m b h)
    handled f n m (Some o) b h = free _ refl (if_written _ (answer_message n m b) (answer_free n m b h))

    ticked : (n l : ℕ) (t : Ticked) → Issues s hs (Step.ticks_as c s n l t)
    ticked n l (Cleans k y) = free _ refl (if_written _ [] none_free)
    ticked n l Rebuilt = free _ refl (if_written _ [] none_free)
    ticked n l (Asks from) = free _ refl (posted_free (whos.Node n) l (node_asks n (all_nodes c) from) (node_asks_free n from (all_nodes c)))
    ticked n l Nothing = free _ refl none_free

    trimmed : (name : List ℕ) (q : Sequencer) (t : ℕ) → OfLog hs q.log name → Issues s hs (record { state = s; lines = lines.Trimmed name t ∷ []; sends = posted (whos.Sequencer q.epoch) q.log (to_each (bodies.Trim t) (all_nodes c)) })
    trimmed name q t o = record { sent = refl; told = λ l n. by_log l n (q.log == l) refl (trims_posted (whos.Sequencer q.epoch) l n q.log t (all_nodes c)) } where
      by_log : (l n : ℕ) (b : Bool) → (q.log == l) ≡ b → how_many (is_trim_to l n) (posted (whos.Sequencer q.epoch) q.log (to_each (bodies.Trim t) (all_nodes c))) ≤ (if b then how_many (λ y. y == n) (all_nodes c) else 0)
          → how_many (is_trim_to l n) (posted (whos.Sequencer q.epoch) q.log (to_each (bodies.Trim t) (all_nodes c))) ≤ how_many (trims_of hs l) (lines.Trimmed name t ∷ [])
      by_log l n true b h = let one = how_many-yes (trims_of hs l) (lines.Trimmed name t) [] (ap (is_log l) o ∙ b) in let m : how_many (λ y. y == n) (all_nodes c) ≤ 1 = once_in 1 n c.nodes in omega arith
      by_log l n false b h = omega arith

-- ---- along a run ----

is_of : (l : ℕ) (o : Option ℕ) → is_log l o ≡ true → o ≡ Some l
is_of l None h = absurd cc
is_of l (Some k) h = ap Some (eqb-true k l h)

-- what a line tells of a log it tells later too
trims_later : (hs : List Happened) (s : State) (e : Move) (d : Done) (l : ℕ) (x : Line) → trims_of hs l x ≡ true → trims_of (hs ++ told s.register e d ∷ []) l x ≡ true
trims_later hs s e d l (lines.Trimmed name t) h = ap (is_log l) (of_log_grows hs s.register e d l name (is_of l (sequencer_log name hs) h)) ∙ eq-eqb l l refl
trims_later hs s e d l x h = absurd cc

abbrev pub AllIssued : List Happened → World → Type 0
AllIssued hs w = (l n : ℕ) → how_many (is_trim_to l n) w.state.network.sent ≤ trimmed_lines hs l

issued_more : (s : State) (hs : List Happened) (d : Done) (l n : ℕ) → Issues s hs d → how_many (is_trim_to l n) (finish d).state.network.sent ≡ how_many (is_trim_to l n) s.network.sent + how_many (is_trim_to l n) d.sends
unfolding finish
issued_more s hs d l n I = sent_more (is_trim_to l n) d.state.network d.sends ∙ ap (λ ms. how_many (is_trim_to l n) ms + how_many (is_trim_to l n) d.sends) I.sent

pub issued_kept : (c : Config) → Keeps c (λ hs w. Base c hs w × AllIssued hs w)
issued_kept c = beside_kept c (Base c) AllIssued (base_kept c) (λ l n. omega arith) (λ hs w e B n A l k.
    let d : Done = Calm.moves c w.state e in
    let I : Issues w.state hs d = dispatch c w.state e (λ d m. Issues w.state hs d) B.0.0 (issues_cases c hs w.state e (λ name q f. (counts_of c hs w B name q f).known)) in
    let more = issued_more w.state hs d l k I in let told_now = I.told l k in let old = A l k in
    let a : how_many (trims_of hs l) (lines_in (hs ++ step_happened c w.state e ∷ [])) ≡ how_many (trims_of hs l) (lines_in hs) + how_many (trims_of hs l) (step_happened c w.state e).lines = lines_more (trims_of hs l) hs (step_happened c w.state e) in
    let b : how_many (trims_of hs l) d.lines ≤ how_many (trims_of hs l) (step_happened c w.state e).lines = finished_more (trims_of hs l) d in
    let m : how_many (trims_of hs l) (lines_in (hs ++ step_happened c w.state e ∷ [])) ≤ how_many (trims_of (hs ++ step_happened c w.state e ∷ []) l) (lines_in (hs ++ step_happened c w.state e ∷ [])) = count_mono (trims_of hs l) (trims_of (hs ++ step_happened c w.state e ∷ []) l) (lines_in (hs ++ step_happened c w.state e ∷ [])) (λ x i h. trims_later hs w.state e d l x h) in omega arith)

-- as many lines tell of a log's points as were issued
pub points_told : (hs : List Happened) (w : World) (ns : List ℕ) → AllIssued hs w → (l : ℕ) → points_issued ns l w.state.network.sent ≤ trimmed_lines hs l
points_told hs w [] A l = omega arith
points_told hs w (n ∷ ns) A l = A l n

-- ---- the bound ----

bound_told : (c : Config) (hs : List Happened) (s : State) (l : ℕ) → numbers_given l s.sequencers ≤ appended_lines hs l → points_issued (all_nodes c) l s.network.sent ≤ trimmed_lines hs l → log_bound c s l ≤ told_bound c hs s l
bound_told c hs s l a b =
    let n : ℕ = length (all_nodes c) in let k : ℕ = how_many (is_live l) s.sequencers + how_many (is_open_for l) s.readers + 1 in let e : ℕ = (epochs_of s.register l).epoch + 1 in
    mul-le-mul_left 32 (mul-le-mul_left n (mul-le-mul_left k (mul-le-mul_left e (omega arith))))

bounds_told : (c : Config) (hs : List Happened) (s : State) (ps : List Spec) → ((l : ℕ) → numbers_given l s.sequencers ≤ appended_lines hs l) → ((l : ℕ) → points_issued (all_nodes c) l s.network.sent ≤ trimmed_lines hs l) → logs_bound c s ps ≤ told_bounds c hs s ps
bounds_told c hs s [] a b = omega arith
bounds_told c hs s (p ∷ ps) a b = let ih : logs_bound c s ps ≤ told_bounds c hs s ps = bounds_told c hs s ps a b in let z = bound_told c hs s p.log (a p.log) (b p.log) in omega arith

pub calm_told : (c : Config) (hs : List Happened) (s : State) → ((l : ℕ) → numbers_given l s.sequencers ≤ appended_lines hs l) → ((l : ℕ) → points_issued (all_nodes c) l s.network.sent ≤ trimmed_lines hs l) → calm_bound c s ≤ 2 * length s.network.fresh + told_bounds c hs s c.logs
unfolding calm_bound
calm_told c hs s a b = let z = bounds_told c hs s c.logs a b in omega arith
