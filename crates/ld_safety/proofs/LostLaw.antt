-- A number that is called lost had a moment at which as many nodes as it has copies stood lost, where those that answered for its copies show no clean page without it.
use Rattle.std.proofs.Common.{◌≡◌, ◌∙◌, ◌⊎◌, ◌≤◌, ℕ, ◌+◌, inl, inr, refl, ap, sym, subst, Bool, true, take, List, [], ◌∷◌, ◌++◌, length, length-append, Some, arith}
use Rattle.std.proofs.lemmas.Bool.{and_from}
use Rattle.ld_table.specs.Table.{find}
use Rattle.ld_table.specs.Named.{find_named}
use Rattle.ld_table.specs.Words.{how_many}
use Rattle.ld_lsn.specs.Number.{esn_of, home_epoch}
use Rattle.ld_config.specs.declared.config.Config.{Config}
use Rattle.ld_schedule.specs.declared.event.Event.{Event}
use Rattle.ld_msg.specs.declared.msg.Summary.{Summary}
use Rattle.ld_msg.specs.Reading.{Held, lacks, is_loss}
use Rattle.ld_msg.specs.declared.msg.Msg.{Msg}
use Rattle.ld_msg.specs.declared.msg.Who.TheVariants as whos
use Rattle.ld_msg.specs.Reader.{Reader, heard, shown_swaps}
use Rattle.ld_msg.specs.Register.{epochs_of}
use Rattle.ld_ids.specs.Choice.{nodes_of}
use Rattle.ld_ids.specs.declared.set.Spec.{Spec}
use Rattle.ld_machine.specs.Config.{first_spec, spec_of, set_at}
use Rattle.ld_machine.specs.Facts.{Happened, Lost, standing, stands_for, stands_lost, spec_now, has_epoch}
use Rattle.ld_machine.specs.Safe.{LossesHappened, Lacking}
use Rattle.ld_machine.specs.World.{World, In, Sent}
use Rattle.ld_machine.specs.Step as Step
use Rattle.ld_machine.specs.Invariant.{Closed, Ready}
use Rattle.ld_machine.specs.Run.{history}
use Rattle.ld_safety.specs.Closes.{ClosedFully, ClosedShort}
use Rattle.ld_safety.specs.Lost.{has_copied}
use Rattle.ld_safety.proofs.Lists.{count_mono, how_many-yes}
use Rattle.ld_safety.proofs.Traces.{Keeps, both_kept}
use Rattle.ld_safety.proofs.Tiles.{Reads, tiles_kept, got_of}
use Rattle.ld_safety.proofs.FixedNow.{AllNow, now_kept, now_said}
use Rattle.ld_safety.proofs.GivenItems.{same_log}
use Rattle.ld_safety.proofs.LostKept.{Standings, standings_kept, stands_there}
use Rattle.ld_safety.proofs.LostActiveKept.{Active, active_kept}
use Rattle.ld_safety.proofs.Base.{Base}
use Rattle.ld_safety.proofs.GivenSteps.{BaseGiven}
use Rattle.ld_safety.proofs.LostMoments.{Known, LossMoment, loss_line, open_at}
use Rattle.ld_safety.proofs.LostLines.{ToldLost}
use Rattle.ld_safety.proofs.LostPlans.{Lacked, lacking_later}

-- ---- lists ----
pub take_all : {X : Type 0} (xs ys : List X) → take (length xs) (xs ++ ys) ≡ xs
take_all [] ys = refl
take_all (x ∷ xs) ys = ap (λ z. x ∷ z) (take_all xs ys)

pub count_whole : (p : ℕ → Bool) (xs : List ℕ) → ((x : ℕ) → In x xs → p x ≡ true) → length xs ≤ how_many p xs
count_whole p [] h = omega arith
count_whole p (x ∷ xs) h = let ih = count_whole p xs (λ y i. h y (inr i)) in omega (arith, how_many-yes p x xs (h x (inl refl)))

-- ---- what is left to be shown of the nodes ----

-- as many as there are copies answered for the number, or took places in its epoch
abbrev pub EnoughNow : Config → World → ℕ → ℕ → Summary → Type 0
EnoughNow c w l s z = (spec_of c w.state.register l (home_epoch s)).r ≤ how_many (has_copied w l s z) (set_at c w.state.register l (home_epoch s))

-- the number's epoch is closed, and no node that answered for the number gave the reader a clean page without it; as many as there are copies answered, or no node of the epoch gave such a page
pub record SettledApart (c : Config) (w : World) (l s : ℕ) (held : List (ℕ × Held)) : Type 0 where
  pub summary : Summary
  pub closed : Closed w l (home_epoch s) summary
  pub fine : (spec_of c w.state.register l (home_epoch s)).r ≤ length (set_at c w.state.register l (home_epoch s))
  pub apart : (y : ℕ) (h : Held) → In y (set_at c w.state.register l (home_epoch s)) → find y held ≡ Some h → lacks s h.body ≡ true → has_copied w l s summary y ≡ true → ⊥
  pub copied : EnoughNow c w l s summary ⊎ ((y : ℕ) (h : Held) → In y (set_at c w.state.register l (home_epoch s)) → find y held ≡ Some h → lacks s h.body ≡ true → ⊥)
  pub enough : (esn_of s ≤ summary.lng) ⊎ Ready c w l (home_epoch s) summary.ballot → EnoughNow c w l s summary
  pub how : ClosedFully c w l (home_epoch s) summary ⊎ ClosedShort c w l (home_epoch s) summary

module _ (c : Config) (Q : List Happened → World → Type 0) where
  -- in each state in which what a reader holds amounts to a loss, where it has seen each swap
  abbrev pub LossesSettled : Type 0
  LossesSettled = (hs : List Happened) (w : World) → Known c Q hs w → (name : List ℕ) (d : Reader) → find_named name w.state.readers ≡ Some d → shown_swaps d.seen ≡ (epochs_of w.state.register d.log).swaps → is_loss d.next (set_at c w.state.register d.log (home_epoch d.next)) d.held ≡ true → SettledApart c w d.log d.next d.held

  -- what a reader is told lost without a confirmation
  abbrev pub LossesTold : Type 0
  LossesTold = (hs : List Happened) (w : World) → Known c Q hs w → (name : List ℕ) (d : Reader) → find_named name w.state.readers ≡ Some d → (m : Msg) → Sent w m → m.to ≡ whos.Reader d.number → (low high n : ℕ) → ToldLost (heard d (Step.sender_node m.from) m.body) low high → low ≤ n → n ≤ high → Lacked c hs d.log (home_epoch n)

  -- with what stands of lines
  abbrev pub OfLines : List Happened → World → Type 0
  OfLines hs w = (BaseGiven c hs w × Active c hs w) × (Reads c hs w × AllNow c hs w)

  abbrev pub Beside : List Happened → World → Type 0
  Beside hs w = Q hs w × ((Base c hs w × Standings c hs w) × OfLines hs w)

  pub beside_all : Keeps c Q → Keeps c Beside
  beside_all K = both_kept c Q (λ hs w. (Base c hs w × Standings c hs w) × OfLines hs w) K
      (both_kept c (λ hs w. Base c hs w × Standings c hs w) OfLines (standings_kept c)
      (both_kept c (λ hs w. BaseGiven c hs w × Active c hs w) (λ hs w. Reads c hs w × AllNow c hs w) (active_kept c)
      (both_kept c (Reads c) (λ hs w. AllNow c hs w) (tiles_kept c) (now_kept c))))

  -- each node that answered for the number was lost at the moment of the asks
  module _ (P : LossesSettled) (hs : List Happened) (k s : ℕ) (d : Reader) (m : LossMoment c Beside hs k s d) where
    pub settled_apart : SettledApart c m.then d.log s m.reader.held
    settled_apart = subst (λ y. SettledApart c m.then d.log y m.reader.held) m.next (subst (λ y. SettledApart c m.then y m.reader.next m.reader.held) m.log
        (P m.before m.then (m.holds.0, m.holds.1.0) m.name m.reader m.named (m.equal ∙ ap (λ l. (epochs_of m.then.state.register l).swaps) (sym m.log)) (subst (λ y. is_loss m.reader.next (set_at c m.then.state.register y (home_epoch m.reader.next)) m.reader.held ≡ true) (sym m.log)
        (subst (λ y. is_loss y (set_at c m.then.state.register d.log (home_epoch y)) m.reader.held ≡ true) (sym m.next) m.loss))))

    settled_lost : (y : ℕ) → In y (set_at c m.then.state.register d.log (home_epoch s)) → ((h : Held) → find y m.reader.held ≡ Some h → lacks s h.body ≡ true → ⊥) → stands_lost d.log (home_epoch s) m.before y ≡ true
    settled_lost y i none = let o = open_at s y (set_at c m.then.state.register d.log (home_epoch s)) m.reader.held m.loss i in elim o.how [
      | inl a ↦ absurd (none o.answer o.held a)
      | inr a ↦ (let k = m.lost y o.answer i o.held a in
          and_from (has_epoch d.log (home_epoch s) m.before) (stands_for (home_epoch s) (standing y d.log m.before Lost)) (m.holds.1.1.1.0.1.0 d.log (home_epoch s) settled_apart.summary settled_apart.closed)
          (stands_there c m.before m.then m.holds.1.1.0.1 y d.log (home_epoch s) k.0 k.1))
    ]

    -- as many stood lost
    lacking_then : (spec_of c m.then.state.register d.log (home_epoch s)).r ≤ how_many (stands_lost d.log (home_epoch s) m.before) (set_at c m.then.state.register d.log (home_epoch s))
    lacking_then = elim settled_apart.copied [
      | inl a ↦ (let b = count_mono (has_copied m.then d.log s settled_apart.summary) (stands_lost d.log (home_epoch s) m.before) (set_at c m.then.state.register d.log (home_epoch s)) (λ y i t. settled_lost y i (λ h f k. settled_apart.apart y h i f k t)) in omega arith)
      | inr a ↦ (let b = count_whole (stands_lost d.log (home_epoch s) m.before) (set_at c m.then.state.register d.log (home_epoch s)) (λ y i. settled_lost y i (λ h f k. a y h i f k)) in let u = settled_apart.fine in omega arith)
    ]

    -- of what the steps before say of the epoch
    pub lacks_then : (p : Spec) × (spec_now d.log (home_epoch s) m.before (first_spec c d.log) ≡ Some p) × (p.r ≤ how_many (stands_lost d.log (home_epoch s) m.before) (nodes_of p))
    lacks_then = (spec_of c m.then.state.register d.log (home_epoch s), now_said c m.before m.then m.holds.1.1.1.1.1 d.log (home_epoch s) m.reached, lacking_then)

  -- a moment before a step of the run
  as_moment : (hs gs rest : List Happened) (l e k : ℕ) → rest ≡ hs ++ gs → length hs ≡ k → Lacked c hs l e → (j : ℕ) × (j ≤ k) × Lacking c rest l e j
  as_moment hs gs rest l e k s p (j, lt, h) = (j, omega arith, subst (λ (y : List Happened). Lacking c y l e j) (sym s) (lacking_later c hs gs l e j lt h))

  -- of a confirmation: the asks
  asked_moment : LossesSettled → (hs : List Happened) (k s : ℕ) (d : Reader) → LossMoment c Beside hs k s d → Lacked c hs d.log (home_epoch s)
  asked_moment P hs k s d m =
      let t : take (m.step + 1) hs ≡ m.before = subst (λ (z : List Happened). take (m.step + 1) z ≡ m.before) (sym m.split) (subst (λ z. take z (m.before ++ m.after) ≡ m.before) m.place (take_all m.before m.after)) in (
        m.step,
        (let a = m.place in let b = ap (λ (z : List Happened). length z) m.split ∙ length-append m.before m.after in omega arith),
        subst (λ (z : List Happened). (p : Spec) × (spec_now d.log (home_epoch s) z (first_spec c d.log) ≡ Some p) × (p.r ≤ how_many (stands_lost d.log (home_epoch s) z) (nodes_of p))) (sym t) (lacks_then P hs k s d m),
      )

  pub losses_happened : Keeps c Q → LossesSettled → LossesTold → (es : List Event) → LossesHappened c (history c es)
  losses_happened K P T es l low high n k g a b =
      let x = loss_line c Beside (beside_all K) es k g.name low high g.told in
      let lg : x.reader.log ≡ l = same_log c x.before x.after (history c es) l g.name x.reader x.split (got_of c x.before x.world x.holds.0.1.1.1.1.0.1 g.name x.reader x.named) g.of_log in
      as_moment x.before x.after (history c es) l (home_epoch n) k x.split x.place (subst (λ z. Lacked c x.before z (home_epoch n)) lg (elim x.how [
        | inl m ↦ (let q : low ≡ n = (let u = m.0 in omega arith) in subst (λ z. Lacked c x.before x.reader.log (home_epoch z)) q (asked_moment P x.before k low x.reader m.1))
        | inr t ↦ T x.before x.world (x.holds.0.0, x.holds.0.1.0) g.name x.reader x.named x.message x.sent x.to low high n t a b
      ]))
