-- Each step leaves records that were appended and trims that were issued.
use Rattle.std.proofs.Common.{Bool, ◌⊎◌, ◌≡◌, ◌≤◌, ℕ, inl, inr, refl, sym, subst, List, [], ◌∷◌, ◌++◌, length, Some, arith}
use Rattle.ld_table.specs.Table.{find}
use Rattle.ld_table.specs.Named.{find_named}
use Rattle.ld_lsn.specs.Number.{numbered}
use Rattle.ld_config.specs.declared.config.Config.{Config}
use Rattle.ld_schedule.specs.declared.event.Event.TheVariants as events
use Rattle.ld_transcript.specs.declared.line.Line.TheVariants as lines
use Rattle.ld_msg.specs.declared.msg.What.TheVariants.{Rec}
use Rattle.ld_msg.specs.declared.msg.Summary.{Summary}
use Rattle.ld_msg.specs.Register.{epoch_limit}
use Rattle.ld_msg.specs.Sequencer.{Sequencer, Recovery, Stage, Stores, Closes, Numbered, appending, next_esn}
use Rattle.ld_machine.specs.State.{State, start}
use Rattle.ld_machine.specs.Facts.{Happened, OfLog, AsksToAppend}
use Rattle.ld_machine.specs.World.{World, In}
use Rattle.ld_machine.specs.Run.{after_step}
use Rattle.ld_safety.proofs.Lists.{not_none, slice_get-In, slice_get_last}
use Rattle.ld_safety.proofs.Traces.{Keeps, step_happened, beside_kept}
use Rattle.ld_safety.proofs.Steps.{finish_In}
use Rattle.ld_safety.proofs.Events.{Live}
use Rattle.ld_safety.proofs.Numbers.{below_last}
use Rattle.ld_safety.proofs.Appends.{own_epoch}
use Rattle.ld_safety.proofs.Base.{Base, base_kept, counts_of}
use Rattle.ld_safety.proofs.Given.{AnyEpoch, AnyShown, AnyReleased, SmallGood, GivenEntry, GivenTrim, GivenSummary, entry_grows, trim_grows, of_log_grows, plan_given, plan_epoch}
use Rattle.ld_safety.proofs.CarriedSteps.{Carries, Sources, HeardOf, carried_on}
use Rattle.ld_safety.proofs.CarriedSequencers as sequencers
use Rattle.ld_safety.proofs.CarriedNodes as nodes
use Rattle.ld_safety.proofs.Closings.{summaries_after}
use Rattle.ld_safety.proofs.SequencerSteps.{Ending, OfStored, ended_by}
use Rattle.ld_safety.proofs.CarriedGrows.{carries_grow}
use Rattle.ld_safety.proofs.Carried as carried
use Rattle.ld_safety.proofs.Has as has
use Rattle.ld_safety.proofs.Withheld.{told_in, told_entry}
use Rattle.ld_safety.proofs.Carried.{message_whole}
use Rattle.ld_machine.specs.Calm as Calm
use Rattle.ld_machine.specs.Calm.{Move, Takes, event_of}

abbrev pub Given : Config → List Happened → State → Type 0
Given c hs s = Carries c s (Takes (events.Flow 0)) (GivenEntry hs) (GivenTrim hs) (GivenSummary hs) AnyEpoch AnyShown AnyReleased (GivenEntry hs) SmallGood s

given_sound : (hs : List Happened) → carried.Sound (GivenEntry hs) (GivenTrim hs) (GivenSummary hs) AnyEpoch AnyShown AnyReleased (GivenEntry hs) SmallGood
given_sound hs = record { zero_trim = λ l. inl refl; place = λ l b n w g. g.place.above; reached = λ l b n w g. tt; closing_trim = λ l e y h. h.0; zero_closed = λ l. (inl refl, omega arith); zero_released = λ l. tt; kept = λ l b n w g. g; zero_good = λ l e. omega arith; good_below = λ l e g h. h; whole = λ l b n w g. g.kept }

-- the stage of a recovery
module _ (hs : List Happened) where
  module _ (q : Sequencer) (L : q.epoch ≤ epoch_limit) (O : carried.RecoveryOk (GivenEntry hs) (GivenTrim hs) (GivenSummary hs) AnyEpoch AnyShown AnyReleased (GivenEntry hs) SmallGood q.log q.epoch q.recovery) where
    stage : (v : Recovery) (g : Stage) → q.recovery ≡ Some v → v.stage ≡ g → carried.StageOk (GivenEntry hs) (GivenTrim hs) (GivenSummary hs) AnyEpoch AnyShown AnyReleased (GivenEntry hs) SmallGood q.log q.epoch v.epoch g
    stage v g e f = subst (carried.StageOk (GivenEntry hs) (GivenTrim hs) (GivenSummary hs) AnyEpoch AnyShown AnyReleased (GivenEntry hs) SmallGood q.log q.epoch v.epoch) f (subst (carried.RecoveryOk (GivenEntry hs) (GivenTrim hs) (GivenSummary hs) AnyEpoch AnyShown AnyReleased (GivenEntry hs) SmallGood q.log q.epoch) e O).1

    in_limit : (v : Recovery) → q.recovery ≡ Some v → v.epoch ≤ epoch_limit
    in_limit v e = let z = (subst (carried.RecoveryOk (GivenEntry hs) (GivenTrim hs) (GivenSummary hs) AnyEpoch AnyShown AnyReleased (GivenEntry hs) SmallGood q.log q.epoch) e O).0.1 in omega arith

module _ (c : Config) (hs : List Happened) (w : World) (e : Move) (B : Base c hs w) (G : Given c hs w.state) where
  abbrev next : List Happened
  next = hs ++ step_happened c w.state e ∷ []

  now : Carries c w.state e (GivenEntry next) (GivenTrim next) (GivenSummary next) AnyEpoch AnyShown AnyReleased (GivenEntry next) SmallGood w.state
  now = carries_grow (GivenEntry hs) (GivenTrim hs) (GivenSummary hs) AnyEpoch AnyShown AnyReleased (GivenEntry hs) SmallGood (GivenEntry next) (GivenTrim next) (GivenSummary next) AnyEpoch AnyShown AnyReleased (GivenEntry next) SmallGood (entry_grows hs w.state.register e (Calm.moves c w.state e)) (trim_grows hs w.state.register e (Calm.moves c w.state e))
      (λ l k y h. (trim_grows hs w.state.register e (Calm.moves c w.state e) l y.trim h.0, h.1)) (λ l k h. tt) (λ l b x h. tt) (λ l k h. tt) (entry_grows hs w.state.register e (Calm.moves c w.state e)) (λ l k g h. h) c w.state e w.state G

  limit_of : (name : List ℕ) (q : Sequencer) → find_named name w.state.sequencers ≡ Some q → q.epoch ≤ epoch_limit
  limit_of name q f = let o = B.0.1.epochs in let a = o.drawn name q f in let b = o.limit q.log in omega arith

  closes_given : (name : List ℕ) (q : Sequencer) (v : Recovery) (y : Summary) (short : Bool) → Live w.state name q → q.recovery ≡ Some v → Ending q (HeardOf w.state q) v y short → GivenSummary next q.log v.epoch y
  closes_given name q v y short l r g = (trim_by (ended_by q (HeardOf w.state q) v y short g), in_limit next q (limit_of name q l.named) (now.sequencers name q l.named).recovery v r) where
    trim_by : (v.stage ≡ Closes y short) ⊎ OfStored q v y → GivenTrim next q.log y.trim
    trim_by (inl k) = (stage next q (limit_of name q l.named) (now.sequencers name q l.named).recovery v (Closes y short) r k).0
    trim_by (inr k) = subst (GivenTrim next q.log) (sym k.trim) (stage next q (limit_of name q l.named) (now.sequencers name q l.named).recovery v (Stores k.storing) r k.stage).0.0

  log_known : (name : List ℕ) (q : Sequencer) → Live w.state name q → OfLog next q.log name
  log_known name q v = of_log_grows hs w.state.register e (Calm.moves c w.state e) q.log name (counts_of c hs w B name q v.named).known

  pub append_given : (name : List ℕ) (q : Sequencer) (payload : List ℕ) → Live w.state name q → appending q payload ≡ Numbered → AsksToAppend name payload (event_of e) → In (lines.Appended name (numbered q.epoch (next_esn q))) (Calm.moves c w.state e).lines → GivenEntry next q.log q.epoch (numbered q.epoch (next_esn q)) (Rec payload)
  append_given name q payload v a i x =
      let u = counts_of c hs w B name q v.named in
      let b = below_last q payload u.small a in
      let y = slice_get-In _ _ (finish_In (Calm.moves c w.state e) _ x) in
      record {
        place = record { above = omega arith; below = λ z. omega arith };
        appended = λ p z. (
          length hs,
          record {
            name = name;
            here = step_happened c w.state e;
            at = slice_get_last (step_happened c w.state e) hs [];
            asked = subst (λ x. AsksToAppend name x (step_happened c w.state e).event) (let t : payload ≡ p = cc in t) i;
            told = (step_happened c w.state e, slice_get_last (step_happened c w.state e) hs [], y.0, y.1);
            of_log = log_known name q v;
          },
        );
        kept = refl;
      }

  trim_given : (name : List ℕ) (q : Sequencer) (point : ℕ) → Live w.state name q → In (lines.Trimmed name point) (Calm.moves c w.state e).lines → GivenTrim next q.log point
  trim_given name q point v x = let y = slice_get-In _ _ (finish_In (Calm.moves c w.state e) _ x) in
      inr (length hs, point, refl, record { name = name; told = (step_happened c w.state e, slice_get_last (step_happened c w.state e) hs [], y.0, y.1); of_log = log_known name q v })

  sources : Sources c w.state e (GivenEntry next) (GivenTrim next) (GivenSummary next) AnyEpoch AnyShown AnyReleased (GivenEntry next) SmallGood
  sources = record {
    sound = given_sound next;
    before = now;
    apart = B.1.1;
    epochs = λ name q f k u v. tt;
    new_epochs = λ l r i k u v. tt;
    register = summaries_after c w.state e (GivenSummary next) now.register (λ name q v y short l r h k o. closes_given name q v y short l r h) B.0.0;
    append = append_given;
    trim = λ name q point v b x. trim_given name q point v x;
    planned = λ name q v d loss gone l r D m i j. let low = sequencers.digest_good (GivenEntry next) (GivenTrim next) (GivenSummary next) AnyEpoch AnyShown AnyReleased (GivenEntry next) SmallGood (given_sound next) q.log v.epoch _ D in (plan_given next q.log q.epoch v.epoch d (λ z o x k. (D z o).entries x k) low loss i j, plan_epoch next q.log q.epoch v.epoch d (λ z o x k. (D z o).entries x k) low loss i j);
    closed = λ name q v y short l r d k g. closes_given name q v y short l r d;
    refill = λ n m round from upto es i t v b u x j k. let z : carried.BodyOk (GivenEntry next) (GivenTrim next) (GivenSummary next) AnyEpoch AnyShown AnyReleased (GivenEntry next) SmallGood m.log m.from m.body = (now.sent m i).0 in
        let y : carried.AllKeptOk (GivenEntry next) (GivenTrim next) (GivenSummary next) AnyEpoch AnyShown AnyReleased (GivenEntry next) SmallGood m.log (told_in es) = (subst (carried.BodyOk (GivenEntry next) (GivenTrim next) (GivenSummary next) AnyEpoch AnyShown AnyReleased (GivenEntry next) SmallGood m.log m.from) b z).0.0 in
        let o = y x (told_entry x es j (message_whole m n round from upto es t b (now.sent m i).1 x j)) in record { place = o.place; appended = o.appended; kept = o.kept };
    shows = λ n l v. record { clean = λ f z k x a h b t i u o n. tt; open_still = λ f k x t i u o. tt };
    good = λ name q f. (let u = (counts_of c hs w B name q f).small in omega arith);
    own = λ name q f. let u = counts_of c hs w B name q f in own_epoch q u.row u.small;
    small = λ name q f. (counts_of c hs w B name q f).small;
    released = λ name q p v f. tt;
  }

  pub given_step : Given c (hs ++ step_happened c w.state e ∷ []) (after_step c w e).state
  given_step = carried_on c w.state e (GivenEntry next) (GivenTrim next) (GivenSummary next) AnyEpoch AnyShown AnyReleased (GivenEntry next) SmallGood B.0.0 sources

start_given : (c : Config) → Given c [] (start c)
unfolding find
start_given c = has.start_has _ _ _ _ _ _ (λ y l. tt) c (λ y. nodes.blank_ok (GivenEntry []) (GivenTrim []) (GivenSummary []) AnyEpoch AnyShown AnyReleased (GivenEntry []) SmallGood (given_sound [])) (λ l e y h. absurd (not_none h))

abbrev pub BaseGiven : Config → List Happened → World → Type 0
BaseGiven c hs w = Base c hs w × Given c hs w.state

pub given_kept : (c : Config) → Keeps c (BaseGiven c)
given_kept c = beside_kept c (Base c) (λ hs w. Given c hs w.state) (base_kept c) (start_given c) (λ hs w e B C G. given_step c hs w e B G)
