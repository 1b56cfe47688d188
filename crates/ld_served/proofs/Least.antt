-- The round below which a reader takes no answers is at most its own.
use Rattle.std.proofs.Common.{◌≡◌, ◌∙◌, ◌≤◌, ℕ, ◌+◌, inl, inr, sym, subst, Bool, true, false, ◌&&◌, nat_lt, if◌then◌else◌, List, Some, None, Option, arith}
use Rattle.ld_table.specs.Named.{find_named, put_named}
use Rattle.ld_config.specs.declared.config.Config.{Config}
use Rattle.ld_msg.specs.declared.msg.Msg.{Msg}
use Rattle.ld_msg.specs.declared.msg.Body.{Body}
use Rattle.ld_msg.specs.Reading.{lost_held, within}
use Rattle.ld_msg.specs.Register.{View}
use Rattle.ld_msg.specs.Sequencer.{activated}
use Rattle.ld_msg.specs.Reader.{Reader, Read, confirms, sees_swap, look_of, starts, is_full_poll, seen_nodes, heard, last_round, on_answer}
use Rattle.ld_op.specs.declared.op.Op.{Op}
use Rattle.ld_op.specs.Ticks.{Ticked, Cleans, Rebuilt, Asks, Nothing}
use Rattle.ld_machine.specs.Config.{looks_at}
use Rattle.ld_machine.specs.State.{State, Done, finish, with_node, node_at}
use Rattle.ld_machine.specs.Step as Step
use Rattle.ld_machine.specs.Calm.{Move}
use Rattle.ld_safety.proofs.Lists.{Some_inj, not_none}
use Rattle.ld_safety.proofs.Names.{named_cases}
use Rattle.ld_safety.proofs.Traces.{Keeps, beside_kept}
use Rattle.ld_safety.proofs.Events.{Cases, dispatch, refreshed}
use Rattle.ld_safety.proofs.Base.{Base, base_kept}
use Rattle.ld_safety.proofs.ReaderSteps.{answered}

abbrev pub IsLow : Reader → Type 0
IsLow d = d.least ≤ d.round

starts_low : (full : Bool) (looks : ℕ → View) (d : Reader) → IsLow d → IsLow (starts full looks d)
starts_low full looks d h = by_tests (nat_lt d.round last_round) (sees_swap d.seen (look_of looks d)) where
  by_tests : (t u : Bool) → (if t && u then d.round + 1 else d.least) ≤ (if t then d.round + 1 else d.round)
  by_tests true true = omega arith
  by_tests true false = omega arith
  by_tests false u = h

confirms_low : (looks : ℕ → View) (a : Read) (lost : List (ℕ × ℕ)) → IsLow a.reader → IsLow (confirms looks a lost).reader
confirms_low looks a lost h = by_swap (sees_swap a.reader.seen (look_of looks a.reader)) where
  by_swap : (u : Bool) → (if u then a.reader.round + 1 else a.reader.least) ≤ a.reader.round + 1
  by_swap true = omega arith
  by_swap false = omega arith

answer_low : (looks : ℕ → View) (d : Reader) (y : ℕ) (b : Body) → IsLow d → IsLow (on_answer looks d y b).reader
answer_low looks d y b h = answered looks d y b (λ a. IsLow a.reader) (record {
  starts = h;
  ignored = λ t. h;
  loss = λ t u. h;
  swapped = λ t u. starts_low false looks (heard d y b) h;
  trim = λ a i f l. i;
  record_there = λ a p i f l. i;
  hole_there = λ a i f l. i;
  plug = λ a i f l. i;
  bridge = λ a i f l. i;
  lossy_end = λ a i f l. i;
  confirm = λ a i f m l. confirms_low looks a (lost_held a.reader.next (within (seen_nodes a.reader.seen) a.reader.held)) i;
  asks_all = λ a i f. starts_low true looks a.reader i;
  polls_on = λ a i f. starts_low false looks a.reader i;
})

-- ---- every event ----

abbrev pub AllLow : List (List ℕ × Reader) → Type 0
AllLow ds = (name : List ℕ) (d : Reader) → find_named name ds ≡ Some d → IsLow d

put_low : (s : List ℕ) (x : Reader) (ds : List (List ℕ × Reader)) → AllLow ds → IsLow x → AllLow (put_named s x ds)
put_low s x ds a h t d f = elim (named_cases t s x ds) [ inl c ↦ subst IsLow (Some_inj (sym c.1 ∙ f)) h | inr c ↦ a t d (sym c.1 ∙ f) ]

module _ (c : Config) (s : State) (e : Move) (H : AllLow s.readers) where
  abbrev Result : Done → Type 0
  Result d = AllLow d.state.readers

  low_cases : Cases c s e (λ d m. Result d)
  unfolding activated
  low_cases = record {
    still = λ f older i. H;
    says = λ x q. H;
    node_hears = λ f older n m i t v o. handled f n m (Step.node_handles n (node_at s n) m).op (Step.node_handles n (node_at s n) m).answer;
    loads = λ n ls q b o. H;
    draw_fails = λ n b. H;
    formats = λ n r g b v i. H;
    ticks = λ n l t v i o. ticked n l t;
    stops = λ n b. H;
    wipes = λ n. H;
    faults = λ n f o. H;
    sets = λ l r x set g. H;
    swaps = λ n m l x r q i. H;
    arms = λ k done o. H;
    hears = λ f older name q m i t l v o. H;
    retries = λ again name q v o. H;
    appends = λ name q p v a i. H;
    trims = λ name q t v b. H;
    drops = λ name q v o. H;
    activates = λ name l r g n i x. H;
    activate_fails = λ name l x g q. H;
    answers = λ f older name d m i t v o. put_low name _ s.readers H (answer_low (looks_at c s.register d.log) d (Step.sender_node m.from) m.body (H name d v.named));
    polls = λ name d v o. put_low name _ s.readers H (starts_low (is_full_poll d) (looks_at c s.register d.log) d (H name d v.named));
    opens = λ style name l from until o x. put_low name _ s.readers H (let z : 0 ≤ 0 = omega arith in z);
  } where
    handled : (f : List ℕ) (n : ℕ) (m : Msg) (o : Option Op) (b : Option Body) → Result (Step.handles (with_node (refreshed s f) n (Step.releases (node_at s n) m.log m.body)) n m o b)
    handled f n m None b = H
    handled f n m (Some o) b = H

    ticked : (n l : ℕ) (t : Ticked) → Result (Step.ticks_as c s n l t)
    ticked n l (Cleans k y) = H
    ticked n l Rebuilt = H
    ticked n l (Asks from) = H
    ticked n l Nothing = H

-- in every run
pub least_kept : (c : Config) → Keeps c (λ hs w. Base c hs w × AllLow w.state.readers)
unfolding finish find_named
least_kept c = beside_kept c (Base c) (λ hs w. AllLow w.state.readers) (base_kept c) (λ n d f. absurd (not_none f))
    (λ hs w e B n p. dispatch c w.state e (λ d m. AllLow (finish d).state.readers) B.0.0 (low_cases c w.state e p))
