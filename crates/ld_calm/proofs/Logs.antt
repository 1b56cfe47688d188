-- Sequencers and readers are of logs of the configuration.
use Rattle.std.proofs.Common.{◌≡◌, ◌∙◌, ℕ, inl, inr, refl, sym, subst, true, ◌==◌, List, Option, Some, None}
use Rattle.std.proofs.lemmas.Bool.{eqb-true}
use Rattle.ld_table.specs.Named.{find_named, put_named}
use Rattle.ld_table.specs.Words.{any_of}
use Rattle.ld_ids.specs.declared.set.Spec.{Spec}
use Rattle.ld_config.specs.declared.config.Config.{Config}
use Rattle.ld_msg.specs.declared.msg.Msg.{Msg}
use Rattle.ld_msg.specs.declared.msg.Body.{Body}
use Rattle.ld_msg.specs.Register.{View}
use Rattle.ld_msg.specs.Sequencer.{Sequencer, activated}
use Rattle.ld_msg.specs.Reader.{Reader, on_answer}
use Rattle.ld_op.specs.declared.op.Op.{Op}
use Rattle.ld_op.specs.Ticks.{Ticked, Cleans, Rebuilt, Asks, Nothing}
use Rattle.ld_machine.specs.Config.{has_log, looks_at}
use Rattle.ld_machine.specs.State.{State, Done, finish, node_at, with_node}
use Rattle.ld_machine.specs.World.{In}
use Rattle.ld_machine.specs.Step as Step
use Rattle.ld_machine.specs.Calm.{Move}
use Rattle.ld_safety.proofs.Lists.{Some_inj, not_none, any_in}
use Rattle.ld_safety.proofs.Names.{named_cases}
use Rattle.ld_safety.proofs.Traces.{Keeps, beside_kept}
use Rattle.ld_safety.proofs.Appends.{RowOf}
use Rattle.ld_safety.proofs.Continues.{reply_continues, retry_continues}
use Rattle.ld_safety.proofs.Events.{Cases, dispatch, refreshed}
use Rattle.ld_safety.proofs.Base.{Base, base_kept, counts_of}
use Rattle.ld_safety.proofs.ReaderSteps.{answered}

answer_log : (looks : ℕ → View) (d : Reader) (y : ℕ) (b : Body) → (on_answer looks d y b).reader.log ≡ d.log
answer_log looks d y b = answered looks d y b (λ a. a.reader.log ≡ d.log) (record {
  starts = refl;
  ignored = λ t. refl;
  loss = λ t u. refl;
  swapped = λ t u. refl;
  trim = λ a i f l. i;
  record_there = λ a p i f l. i;
  hole_there = λ a i f l. i;
  plug = λ a i f l. i;
  bridge = λ a i f l. i;
  lossy_end = λ a i f l. i;
  confirm = λ a i f m l. i;
  asks_all = λ a i f. i;
  polls_on = λ a i f. i;
})

-- a log of the configuration is one of its sets' logs
pub log_there : (l : ℕ) (ps : List Spec) → any_of (λ (s : Spec). s.log == l) ps ≡ true → (p : Spec) × In p ps × (p.log ≡ l)
log_there l ps h = let z = any_in (λ (s : Spec). s.log == l) ps h in (z.0, z.1, eqb-true z.0.log l z.2)

module _ {X : Type 0} (at : X → ℕ) (c : Config) where
  abbrev pub AllOf : List (List ℕ × X) → Type 0
  AllOf xs = (name : List ℕ) (x : X) → find_named name xs ≡ Some x → has_log c (at x) ≡ true

  put_of : (s : List ℕ) (x : X) (xs : List (List ℕ × X)) → AllOf xs → has_log c (at x) ≡ true → AllOf (put_named s x xs)
  put_of s x xs a h t y f = elim (named_cases t s x xs) [ inl k ↦ subst (λ z. has_log c (at z) ≡ true) (Some_inj (sym k.1 ∙ f)) h | inr k ↦ a t y (sym k.1 ∙ f) ]

abbrev pub of_sequencer : Sequencer → ℕ
of_sequencer q = q.log

abbrev pub of_reader : Reader → ℕ
of_reader d = d.log

abbrev pub LogsFine : Config → State → Type 0
LogsFine c s = AllOf of_sequencer c s.sequencers × AllOf of_reader c s.readers

module _ (c : Config) (s : State) (e : Move) (rows : (name : List ℕ) (q : Sequencer) → find_named name s.sequencers ≡ Some q → RowOf q) (H : LogsFine c s) where
  abbrev Result : Done → Type 0
  Result d = LogsFine c d.state

  one : (name : List ℕ) (q p : Sequencer) → find_named name s.sequencers ≡ Some q → p.log ≡ q.log → AllOf of_sequencer c (put_named name p s.sequencers)
  one name q p f l = put_of of_sequencer c name p s.sequencers H.0 (subst (λ k. has_log c k ≡ true) (sym l) (H.0 name q f))

  logs_cases : Cases c s e (λ d m. Result d)
  unfolding activated
  logs_cases = record {
    still = λ f older i. H;
    says = λ x q. H;
    node_hears = λ f older n m i t v o. handled f n m (Step.node_handles n (node_at s n) m).op (Step.node_handles n (node_at s n) m).answer;
    loads = λ n ls q b o. H;
    draw_fails = λ n b. H;
    formats = λ n r g b v i. H;
    ticks = λ n l t v i o. ticked n l t;
    stops = λ n b. H;
    wipes = λ n. H;
    faults = λ n f o. H;
    sets = λ l r x set g. H;
    swaps = λ n m l x r q i. H;
    arms = λ k done o. H;
    hears = λ f older name q m i t l v o. (let z = reply_continues c s q (rows name q v.named) name (Step.sender_node m.from) m.body v.there in one name q _ v.named z.log, H.1);
    retries = λ again name q v o. (let z = retry_continues c s q (rows name q v.named) v.there in one name q _ v.named z.log, H.1);
    appends = λ name q p v a i. (one name q _ v.named refl, H.1);
    trims = λ name q t v b. H;
    drops = λ name q v o. (one name q (Step.dropped q) v.named refl, H.1);
    activates = λ name l k g n i x. (put_of of_sequencer c name _ s.sequencers H.0 g, H.1);
    activate_fails = λ name l x g q. H;
    answers = λ f older name d m i t v o. (H.0, put_of of_reader c name _ s.readers H.1 (subst (λ k. has_log c k ≡ true) (sym (answer_log (looks_at c s.register d.log) d (Step.sender_node m.from) m.body)) (H.1 name d v.named)));
    polls = λ name d v o. (H.0, put_of of_reader c name _ s.readers H.1 (H.1 name d v.named));
    opens = λ style name l from until o x. (H.0, put_of of_reader c name _ s.readers H.1 o.log);
  } where
    handled : (f : List ℕ) (n : ℕ) (m : Msg) (o : Option Op) (b : Option Body) → Result (Step.handles (with_node (refreshed s f) n (Step.releases (node_at s n) m.log m.body)) n m o b)
    handled f n m None b = H
    handled f n m (Some o) b = H

    ticked : (n l : ℕ) (t : Ticked) → Result (Step.ticks_as c s n l t)
    ticked n l (Cleans k y) = H
    ticked n l Rebuilt = H
    ticked n l (Asks from) = H
    ticked n l Nothing = H

-- in every run
pub logs_kept : (c : Config) → Keeps c (λ hs w. Base c hs w × LogsFine c w.state)
unfolding finish find_named
logs_kept c = beside_kept c (Base c) (λ hs w. LogsFine c w.state) (base_kept c) (λ n q f. absurd (not_none f), λ n q f. absurd (not_none f))
    (λ hs w e B n p. dispatch c w.state e (λ d m. LogsFine c (finish d).state) B.0.0 (logs_cases c w.state e (λ name q f. (counts_of c hs w B name q f).row) p))
