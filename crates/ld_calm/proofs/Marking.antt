-- In every run: each page ends at a mark, not below its first number, and each item of a reader ends at a mark.
use Rattle.std.proofs.Common.{◌≡◌, ◌≤◌, ◌<◌, ℕ, zero, suc, ◌+◌, inl, inr, refl, sym, subst, true, List, [], ◌∷◌, length, Option, Some, None, arith}
use Rattle.ld_table.specs.Table.{find, put}
use Rattle.ld_table.specs.Named.{find_named}
use Rattle.ld_lsn.specs.Number.{epoch_of}
use Rattle.ld_ids.specs.Set.{members}
use Rattle.ld_ids.specs.Choice.{nodes_of}
use Rattle.ld_config.specs.declared.config.Config.{Config}
use Rattle.ld_config.specs.Bounds.{IsInBounds}
use Rattle.ld_msg.specs.declared.msg.Entry.{Entry}
use Rattle.ld_msg.specs.declared.msg.Who.{Who}
use Rattle.ld_msg.specs.declared.msg.Who.TheVariants as whos
use Rattle.ld_msg.specs.declared.msg.Msg.{Msg}
use Rattle.ld_msg.specs.declared.msg.Body.{Body}
use Rattle.ld_msg.specs.declared.msg.Body.TheVariants as bodies
use Rattle.ld_msg.specs.Register.{View}
use Rattle.ld_msg.specs.Reading.{Held, trim_held, bridge_to}
use Rattle.ld_msg.specs.Reader.{Reader, Confirmation, round_of, is_newer, heard, confirming_with, is_confirmed}
use Rattle.ld_machine.specs.Config.{all_nodes}
use Rattle.ld_machine.specs.Facts.{Happened, Interval, intervals}
use Rattle.ld_machine.specs.World.{World, In}
use Rattle.ld_safety.proofs.Lists.{cond_both}
use Rattle.ld_safety.proofs.Members.{In_put}
use Rattle.ld_safety.proofs.Traces.{Keeps, both_kept}
use Rattle.ld_safety.proofs.Given.{GivenEntry, GivenTrim, GivenSummary, AnyEpoch, AnyShown, AnyReleased, SmallGood}
use Rattle.ld_safety.proofs.GivenSteps.{BaseGiven}
use Rattle.ld_safety.proofs.Along.{Along}
use Rattle.ld_safety.proofs.Said.{Said, SaidHere}
use Rattle.ld_safety.proofs.Settled.{Reached, TrimFine, CloseFine, ShowFine, ReleaseFine, LngFine}
use Rattle.ld_safety.proofs.Tiles.{Reads, TilesTo, tiles_kept, got_of}
use Rattle.ld_safety.proofs.Carried as carried
use Rattle.ld_calm.proofs.Measure.{page_marks, item_marks}
use Rattle.ld_calm.proofs.Asking as asking
use Rattle.ld_calm.proofs.Points.{Issuers, AllPoints, points_kept}
use Rattle.ld_calm.proofs.Places.{upto_marked}
use Rattle.ld_calm.proofs.Rise.{Paging, PagesRise, rise_kept}
use Rattle.ld_calm.proofs.Shown.{AllHeld, HeldSaid, HeldGiven, record_marked, hole_marked, plug_marked, end_marked, trim_marked, within_marked}
use Rattle.ld_calm.proofs.Between.{Telling, AllBetween, between_kept}
use Rattle.ld_calm.proofs.Answering.{Items}

-- what marks stand on
abbrev pub Pointing : Config → List Happened → World → Type 0
Pointing c hs w = (BaseGiven c hs w × Along c hs w) × (Issuers hs × AllPoints c hs w)

abbrev pub Rising : Config → List Happened → World → Type 0
Rising c hs w = Paging c hs w × PagesRise w.state.network.sent

abbrev pub Confirming : Config → List Happened → World → Type 0
Confirming c hs w = Telling c hs w × AllBetween w

abbrev pub Marking : Config → List Happened → World → Type 0
Marking c hs w = (Pointing c hs w × Rising c hs w) × (Confirming c hs w × Reads c hs w)

pub marking_kept : (c : Config) → Keeps c (Marking c)
marking_kept c = both_kept c (λ hs w. Pointing c hs w × Rising c hs w) (λ hs w. Confirming c hs w × Reads c hs w) (both_kept c (Pointing c) (Rising c) (points_kept c) (rise_kept c)) (both_kept c (Confirming c) (Reads c) (between_kept c) (tiles_kept c))

pub some_node : (c : Config) → IsInBounds c → (n : ℕ) × In n (all_nodes c)
some_node c b = first_of (members c.nodes) b.some_node where
  first_of : (ns : List ℕ) → 1 ≤ length ns → (n : ℕ) × In n ns
  first_of [] h = absurd (omega arith)
  first_of (n ∷ ns) h = (n, inl refl)

module _ (c : Config) (hs : List Happened) (w : World) (b : IsInBounds c) (M : Marking c hs w) where
  -- ---- pages ----
  page_here : (l from upto trim lng : ℕ) (es : List Entry) (k : ℕ) (who : Who) → carried.NodeWho (Said hs w.made w.state.register) (TrimFine c hs w.state.network.sent w.state.register) (CloseFine c hs w.made w.state.network.sent w.state.register) (Reached w.state.register) (ShowFine c hs w.made w.state.network.sent w.state.register) (ReleaseFine c hs w.state.network.sent w.state.register) (SaidHere hs w.made w.state.register) (LngFine c hs w.state.network.sent w.state.register) who
      → In (record { from = who; to = whos.Sequencer k; log = l; body = bodies.DigestPage from upto trim lng es }) w.state.network.sent → (from ≤ upto) × In upto (page_marks c w.state l (epoch_of from))
  page_here l from upto trim lng es k (whos.Node y) u i = (M.0.1.1 l y k from upto trim lng es i, upto_marked c hs w M.0.0.0 M.0.0.1.1 (some_node c b) l y k from upto trim lng es i (M.0.1.0.1.1 _ i y refl))
  page_here l from upto trim lng es k (whos.Sequencer e) u i = absurd u
  page_here l from upto trim lng es k (whos.Reader r) u i = absurd u

  same_parts : (m : Msg) (k : ℕ) (z : Body) → m.to ≡ whos.Sequencer k → m.body ≡ z → m ≡ record { from = m.from; to = whos.Sequencer k; log = m.log; body = z }
  same_parts m k z t q = λ i. record { from = m.from; to = t i; log = m.log; body = q i }

  -- a page that is under way to a sequencer
  pub page_fits : (m : Msg) → In m w.state.network.sent → (k : ℕ) → m.to ≡ whos.Sequencer k → (from upto trim lng : ℕ) (es : List Entry) → m.body ≡ bodies.DigestPage from upto trim lng es → (from ≤ upto) × In upto (page_marks c w.state m.log (epoch_of from))
  page_fits m i k t from upto trim lng es q =
      let j = subst (λ x. In x w.state.network.sent) (same_parts m k (bodies.DigestPage from upto trim lng es) t q) i in
      page_here m.log from upto trim lng es k m.from (M.0.0.0.1.said.sent _ j).0.1 j

  -- ---- readers ----
  tiles_up : (until next end : ℕ) (is : List Interval) → 0 < next → TilesTo until next is end → 0 < end
  tiles_up until next end [] p t = omega arith
  tiles_up until next end (i ∷ is) p t = tiles_up until (i.high + 1) end is (omega arith) t.3

  -- a reader stands at a number
  pub next_positive : (name : List ℕ) (d : Reader) → find_named name w.state.readers ≡ Some d → 0 < d.next
  next_positive name d f = let g = got_of c hs w M.1.1.1 name d f in tiles_up d.until g.open_as.from d.next (intervals name hs) (by_zero g.open_as.from g.start) g.tiles where
    by_zero : (n : ℕ) → (n ≡ 0 → ⊥) → 0 < n
    by_zero zero h = absurd (h refl)
    by_zero (suc n) h = omega arith

  module _ (name : List ℕ) (d : Reader) (f : find_named name w.state.readers ≡ Some d) (m : Msg) (i : In m w.state.network.sent) (t : m.to ≡ whos.Reader d.number) where
    log_same : d.log ≡ m.log
    log_same = M.0.0.0.0.0.1.1.logs m d.number name d i (inl t) f refl

    new_held : HeldSaid c hs w M.0.0.0 M.0.0.1.1 (some_node c b) d.log m.body × HeldGiven c hs w M.0.0.0 M.0.0.1.1 (some_node c b) d.log m.body
    new_held = (
      subst (λ l. HeldSaid c hs w M.0.0.0 M.0.0.1.1 (some_node c b) l m.body) (sym log_same)
          (carried.held_of (Said hs w.made w.state.register) (TrimFine c hs w.state.network.sent w.state.register) (CloseFine c hs w.made w.state.network.sent w.state.register) (Reached w.state.register) (ShowFine c hs w.made w.state.network.sent w.state.register) (ReleaseFine c hs w.state.network.sent w.state.register) (SaidHere hs w.made w.state.register) (LngFine c hs w.state.network.sent w.state.register) m.log m.from m.body (M.0.0.0.1.said.sent m i).0),
      subst (λ l. HeldGiven c hs w M.0.0.0 M.0.0.1.1 (some_node c b) l m.body) (sym log_same)
          (carried.held_of (GivenEntry hs) (GivenTrim hs) (GivenSummary hs) AnyEpoch AnyShown AnyReleased (GivenEntry hs) SmallGood m.log m.from m.body (M.0.0.0.0.1.sent m i).0),
    )

    -- what it holds as it hears the message
    held_here : (y : ℕ) → AllHeld c hs w M.0.0.0 M.0.0.1.1 (some_node c b) d.log (heard d y m.body).held
    held_here y = cond_both (is_newer (find y d.held) (round_of m.body)) (put y (record { round = round_of m.body; body = m.body }) d.held) d.held (λ ds. AllHeld c hs w M.0.0.0 M.0.0.1.1 (some_node c b) d.log ds)
        (λ n h j. elim (In_put y (record { round = round_of m.body; body = m.body }) d.held h j) [
          | inl q ↦ subst (λ (x : ℕ × Held). HeldSaid c hs w M.0.0.0 M.0.0.1.1 (some_node c b) d.log x.1.body × HeldGiven c hs w M.0.0.0 M.0.0.1.1 (some_node c b) d.log x.1.body) (sym q) new_held
          | inr k ↦ old h k
        ]) (λ n. old) where
          old : (h : ℕ × Held) → In h d.held → HeldSaid c hs w M.0.0.0 M.0.0.1.1 (some_node c b) d.log h.1.body × HeldGiven c hs w M.0.0.0 M.0.0.1.1 (some_node c b) d.log h.1.body
          old h j = (M.0.0.0.1.said.readers name d f h j, M.0.0.0.0.1.readers name d f h j)

    -- a confirmation that is complete as it hears it lasted before
    was_confirming : (y : ℕ) → is_confirmed (heard d y m.body).confirming ≡ true → In d.next (item_marks c w.state d.log)
    was_confirming y h = by_confirming d.confirming refl h where
      by_confirming : (o : Option Confirmation) → d.confirming ≡ o → is_confirmed (confirming_with o y m.body) ≡ true → In d.next (item_marks c w.state d.log)
      by_confirming None e h = absurd cc
      by_confirming (Some v) e h = within_marked c hs w M.0.0.0 M.0.0.1.1 (some_node c b) d.log d.next (M.1.0.1 name d v f e)

    -- all items that it gets then
    module _ (g : asking.Ground) (all : length g.all ≡ g.nodes) (looks : ℕ → View) (looked : (e : ℕ) → length (nodes_of (looks e).spec) ≤ g.nodes) (swaps : (e : ℕ) → (looks e).swaps ≡ g.swaps) (y : ℕ) (since : g.since ≤ d.round)
        (apart : (v : Confirmation) → (heard d y m.body).confirming ≡ Some v → d.senders ≡ None) (marks : (x : ℕ) → In x (item_marks c w.state d.log) → In x g.marks) where
      abbrev pub On : Reader → Type 0
      On e = asking.Through g all looks looked swaps d y m.body since apart e

      held_on : (e : Reader) → On e → AllHeld c hs w M.0.0.0 M.0.0.1.1 (some_node c b) d.log e.held
      held_on e T = subst (AllHeld c hs w M.0.0.0 M.0.0.1.1 (some_node c b) d.log) (sym T.held) (held_here y)

      pub items_by : Items g all looks looked swaps d y m.body since apart
      items_by = record {
        positive = next_positive name d f;
        trim = λ e T h. marks (trim_held e.held) (trim_marked c hs w M.0.0.0 M.0.0.1.1 (some_node c b) d.log e.held (held_on e T) e.next T.positive h);
        there = λ e p T h. marks e.next (record_marked c hs w M.0.0.0 M.0.0.1.1 (some_node c b) d.log e.held (held_on e T) e.next p h);
        hole = λ e T h. marks e.next (hole_marked c hs w M.0.0.0 M.0.0.1.1 (some_node c b) d.log e.held (held_on e T) e.next h);
        plug = λ e T h. marks e.next (plug_marked c hs w M.0.0.0 M.0.0.1.1 (some_node c b) d.log e.held (held_on e T) e.next h);
        end = λ e loss T h. marks (bridge_to e.next) (end_marked c hs w M.0.0.0 M.0.0.1.1 (some_node c b) d.log e.held (held_on e T) e.next loss h);
        loss = λ h. marks d.next (was_confirming y h);
      }
