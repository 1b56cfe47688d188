-- While a confirmation lasts, all nodes send payloads, and its round is the reader's.
use Rattle.std.proofs.Common.{◌≡◌, ◌∙◌, ℕ, ◌+◌, inl, inr, refl, ap, sym, subst, Bool, true, false, not, ◌==◌, if◌then◌else◌, List, [], Option, Some, None}
use Rattle.ld_table.specs.Named.{find_named, put_named}
use Rattle.ld_table.specs.Words.{with_one}
use Rattle.ld_config.specs.declared.config.Config.{Config}
use Rattle.ld_msg.specs.declared.msg.Msg.{Msg}
use Rattle.ld_msg.specs.declared.msg.Body.{Body}
use Rattle.ld_msg.specs.Register.{View}
use Rattle.ld_msg.specs.Sequencer.{activated}
use Rattle.ld_msg.specs.Reader.{Reader, Confirmation, Read, round_of, confirming_with, confirms_loss, confirms, sees_swap, look_of, senders_of, heard, on_answer}
use Rattle.ld_op.specs.declared.op.Op.{Op}
use Rattle.ld_op.specs.Ticks.{Ticked, Cleans, Rebuilt, Asks, Nothing}
use Rattle.ld_machine.specs.Config.{looks_at}
use Rattle.ld_machine.specs.State.{State, Done, finish, with_node, node_at}
use Rattle.ld_machine.specs.Step as Step
use Rattle.ld_machine.specs.Calm.{Move}
use Rattle.ld_safety.proofs.Lists.{Some_inj, not_none}
use Rattle.ld_safety.proofs.Names.{named_cases}
use Rattle.ld_safety.proofs.Traces.{Keeps, beside_kept}
use Rattle.ld_safety.proofs.Events.{Cases, dispatch, refreshed}
use Rattle.ld_safety.proofs.Base.{Base, base_kept}
use Rattle.ld_safety.proofs.ReaderSteps.{answered}

abbrev pub IsApart : Reader → Type 0
IsApart d = (v : Confirmation) → d.confirming ≡ Some v → (d.senders ≡ None) × (v.round ≡ d.round)

-- what an answer leaves of a confirmation has its round
same_round : (o : Option Confirmation) (y : ℕ) (b : Body) (v : Confirmation) → confirming_with o y b ≡ Some v → (w : Confirmation) × (o ≡ Some w) × (w.round ≡ v.round)
same_round None y b v e = absurd (not_none e)
same_round (Some w) y b v e = by_round (not (round_of b == w.round)) e where
  by_told : (t : Bool) → (if t then Some (record { round = w.round; asked = w.asked; told = with_one y w.told }) else None) ≡ Some v → (x : Confirmation) × (Some w ≡ Some x) × (x.round ≡ v.round)
  by_told true h = (w, refl, ap (λ (x : Confirmation). x.round) (Some_inj h))
  by_told false h = absurd (not_none h)

  by_round : (t : Bool) → (if t then Some w else if confirms_loss w.asked y b then Some (record { round = w.round; asked = w.asked; told = with_one y w.told }) else None) ≡ Some v → (x : Confirmation) × (Some w ≡ Some x) × (x.round ≡ v.round)
  by_round true h = (v, h, refl)
  by_round false h = by_told (confirms_loss w.asked y b) h

pub heard_apart : (d : Reader) (y : ℕ) (b : Body) → IsApart d → IsApart (heard d y b)
heard_apart d y b h v e = let w = same_round d.confirming y b v e in let z = h w.0 w.1 in (z.0, sym w.2 ∙ z.1)

confirms_apart : (looks : ℕ → View) (a : Read) (lost : List (ℕ × ℕ)) → IsApart (confirms looks a lost).reader
confirms_apart looks a lost v = by_swap (sees_swap a.reader.seen (look_of looks a.reader)) where
  by_swap : (t : Bool) → (if t then None else Some (record { round = a.reader.round + 1; asked = lost; told = [] })) ≡ Some v → ((if t then senders_of false (look_of looks a.reader) a.reader else None) ≡ None) × (v.round ≡ a.reader.round + 1)
  by_swap true h = absurd (not_none h)
  by_swap false h = (refl, sym (ap (λ (x : Confirmation). x.round) (Some_inj h)))

answer_apart : (looks : ℕ → View) (d : Reader) (y : ℕ) (b : Body) → IsApart d → IsApart (on_answer looks d y b).reader
answer_apart looks d y b h = answered looks d y b (λ a. IsApart a.reader) (record {
  starts = heard_apart d y b h;
  ignored = λ t. h;
  loss = λ t u. (λ v q. absurd (not_none q));
  swapped = λ t u. (λ v q. absurd (not_none q));
  trim = λ a i f l. (λ v q. absurd (not_none q));
  record_there = λ a p i f l. (λ v q. absurd (not_none q));
  hole_there = λ a i f l. (λ v q. absurd (not_none q));
  plug = λ a i f l. (λ v q. absurd (not_none q));
  bridge = λ a i f l. (λ v q. absurd (not_none q));
  lossy_end = λ a i f l. (λ v q. absurd (not_none q));
  confirm = λ a i f m l. confirms_apart looks a _;
  asks_all = λ a i f. (λ v q. absurd (not_none q));
  polls_on = λ a i f. (λ v q. absurd (not_none q));
})

-- ---- every event ----

abbrev pub AllApart : List (List ℕ × Reader) → Type 0
AllApart ds = (name : List ℕ) (d : Reader) → find_named name ds ≡ Some d → IsApart d

put_apart : (s : List ℕ) (x : Reader) (ds : List (List ℕ × Reader)) → AllApart ds → IsApart x → AllApart (put_named s x ds)
put_apart s x ds a h t d f = elim (named_cases t s x ds) [ inl c ↦ subst IsApart (Some_inj (sym c.1 ∙ f)) h | inr c ↦ a t d (sym c.1 ∙ f) ]

module _ (c : Config) (s : State) (e : Move) (H : AllApart s.readers) where
  abbrev Result : Done → Type 0
  Result d = AllApart d.state.readers

  apart_cases : Cases c s e (λ d m. Result d)
  unfolding activated
  apart_cases = record {
    still = λ f older i. H;
    says = λ x q. H;
    node_hears = λ f older n m i t v o. handled f n m (Step.node_handles n (node_at s n) m).op (Step.node_handles n (node_at s n) m).answer;
    loads = λ n ls q b o. H;
    draw_fails = λ n b. H;
    formats = λ n r g b v i. H;
    ticks = λ n l t v i o. ticked n l t;
    stops = λ n b. H;
    wipes = λ n. H;
    faults = λ n f o. H;
    sets = λ l r x set g. H;
    swaps = λ n m l x r q i. H;
    arms = λ k done o. H;
    hears = λ f older name q m i t l v o. H;
    retries = λ again name q v o. H;
    appends = λ name q p v a i. H;
    trims = λ name q t v b. H;
    drops = λ name q v o. H;
    activates = λ name l r g n i x. H;
    activate_fails = λ name l x g q. H;
    answers = λ f older name d m i t v o. put_apart name _ s.readers H (answer_apart (looks_at c s.register d.log) d (Step.sender_node m.from) m.body (H name d v.named));
    polls = λ name d v o. put_apart name _ s.readers H ((λ v q. absurd (not_none q)));
    opens = λ style name l from until o x. put_apart name _ s.readers H ((λ v q. absurd (not_none q)));
  } where
    handled : (f : List ℕ) (n : ℕ) (m : Msg) (o : Option Op) (b : Option Body) → Result (Step.handles (with_node (refreshed s f) n (Step.releases (node_at s n) m.log m.body)) n m o b)
    handled f n m None b = H
    handled f n m (Some o) b = H

    ticked : (n l : ℕ) (t : Ticked) → Result (Step.ticks_as c s n l t)
    ticked n l (Cleans k y) = H
    ticked n l Rebuilt = H
    ticked n l (Asks from) = H
    ticked n l Nothing = H

-- in every run
pub apart_kept : (c : Config) → Keeps c (λ hs w. Base c hs w × AllApart w.state.readers)
unfolding finish find_named
apart_kept c = beside_kept c (Base c) (λ hs w. AllApart w.state.readers) (base_kept c) (λ n d f. absurd (not_none f))
    (λ hs w e B n p. dispatch c w.state e (λ d m. AllApart (finish d).state.readers) B.0.0 (apart_cases c w.state e p))
