-- Each entry anywhere says what its ballot says, or was known good; trims, summaries, pages, released numbers and last known good offsets are fine.
use Rattle.std.proofs.Common.{◌≡◌, ◌∙◌, ◌≤◌, ◌<◌, ℕ, ◌+◌, inl, inr, refl, ap, sym, subst, true, ◌&&◌, nat_lt, nat_le, List, [], ◌∷◌, ◌++◌, Some, arith, Bool, false, ◌-◌, ◌⊎◌, ◌==◌, eqb-true}
use Rattle.ld_safety.proofs.NodeSteps.{missing_clean}
use Rattle.ld_op.specs.Answers.{lets_read}
use Rattle.ld_table.proofs.Laws.{find-put_same}
use Rattle.ld_safety.proofs.CarriedSequencers as sequencers
use Rattle.ld_msg.specs.declared.msg.Msg.{Msg}
use Rattle.std.proofs.lemmas.Bool.{and_parts, cases_order}
use Rattle.ld_table.specs.Table.{find}
use Rattle.ld_table.specs.Named.{find_named}
use Rattle.ld_lsn.specs.Number.{epoch_of, esn_of, numbered, last_esn, home_epoch, home_esn}
use Rattle.ld_config.specs.declared.config.Config.{Config}
use Rattle.ld_schedule.specs.declared.event.Event.TheVariants as events
use Rattle.ld_msg.specs.declared.msg.What.{What}
use Rattle.ld_msg.specs.declared.msg.What.TheVariants.{Rec}
use Rattle.ld_msg.specs.declared.msg.Summary.{Summary}
use Rattle.ld_msg.specs.declared.msg.Entry.{Entry}
use Rattle.ld_msg.specs.Digest.{Told, Item, plan, is_bridge, digest_lng}
use Rattle.ld_msg.specs.Register.{Register, Granted, Epochs, epochs_of, lce_of, close, closed_epochs, with_epochs}
use Rattle.ld_msg.specs.Sequencer.{Sequencer, Recovery, next_esn, released_of, Stage, Closes, Stores}
use Rattle.ld_op.specs.Plain.{log_of, summary_at, is_lost}
use Rattle.ld_op.specs.Ticks.{is_missing, as_closed, ballot_of}
use Rattle.ld_machine.specs.State.{State, Done, node_at}
use Rattle.ld_machine.specs.Facts.{Happened}
use Rattle.ld_machine.specs.World.{World, Made, In, made_on}
use Rattle.ld_machine.specs.Run.{after_step}
use Rattle.ld_machine.specs.Step as Step
use Rattle.ld_safety.proofs.Lists.{In_right, cond_both, Some_inj}
use Rattle.ld_safety.proofs.Members.{find_in}
use Rattle.ld_safety.proofs.Traces.{step_happened}
use Rattle.ld_safety.proofs.Steps.{told}
use Rattle.ld_safety.proofs.Events.{Live}
use Rattle.ld_safety.proofs.RegisterSteps.{close_granted, epochs_put, epochs_same}
use Rattle.ld_safety.proofs.Registers.{Up, OnlyClosed, follows}
use Rattle.ld_safety.proofs.Plans.{plan_items}
use Rattle.ld_safety.proofs.Base.{Base, counts_of}
use Rattle.ld_safety.proofs.Appends.{own_epoch}
use Rattle.ld_safety.proofs.Given.{GivenEntry, entry_grows, appends_grows, plan_given, end_place}
use Rattle.ld_safety.proofs.GivenSteps.{Given, append_given}
use Rattle.ld_safety.proofs.CarriedSteps.{Carries, Sources, carried_on, HeardOf}
use Rattle.ld_safety.proofs.CarriedGrows.{carries_grow}
use Rattle.ld_safety.proofs.Carried as carried
use Rattle.ld_safety.proofs.Protocol.{Basis, plan_of, plan_at, Says}
pub use Rattle.ld_safety.proofs.Settled.{Open, Reached}
use Rattle.ld_safety.proofs.Settled.{OfLoss, FreshLosses, of_loss_grows, TrimFine, CloseFine, ShowFine, ReleaseFine, LngFine, KnownGood, ClosedEntry, Summarized, Stays, acked_grows, trim_fine_grows, lng_fine_grows, close_fine_grows, show_grows, known_good_grows, release_grows, summarized_grows}
use Rattle.ld_safety.proofs.Closings.{OfSummaries, summaries_after}
use Rattle.ld_safety.proofs.SequencerSteps.{Ending, OfStored, ended_by}
use Rattle.ld_safety.proofs.Withheld.{told_entry}
use Rattle.ld_safety.proofs.Carried.{message_whole}
use Rattle.ld_machine.specs.Calm as Calm
use Rattle.ld_machine.specs.Calm.{Move, Takes, event_of}

pub record Said (hs : List Happened) (made : List Made) (r : Register) (l b n : ℕ) (x : What) : Type 0 where
  pub given : GivenEntry hs l b n x
  pub reached : Reached r l (epoch_of n)
  pub says : Says hs made l b n x

-- what a node keeps and a reader is shown of a number
pub record SaidHere (hs : List Happened) (made : List Made) (r : Register) (l b n : ℕ) (x : What) : Type 0 where
  pub given : GivenEntry hs l b n x
  pub reached : Reached r l (epoch_of n)
  pub says : Says hs made l b n x ⊎ (KnownGood hs r l b n x ⊎ OfLoss made r l b n x)

abbrev pub AllSaid : Config → List Happened → List Made → Register → State → Type 0
AllSaid c hs made r s = Carries c s (Takes (events.Flow 0)) (Said hs made r) (TrimFine c hs s.network.sent r) (CloseFine c hs made s.network.sent r) (Reached r) (ShowFine c hs made s.network.sent r) (ReleaseFine c hs s.network.sent r) (SaidHere hs made r) (LngFine c hs s.network.sent r) s

-- ---- what grows ----
-- a last known good offset lies below the last offset, where no append has its number
pub good_low : (c : Config) (hs : List Happened) (sent : List Msg) (r : Register) (l e g : ℕ) → LngFine c hs sent r l e g → g < last_esn
good_low c hs sent r l e g h = elim (cases_order g last_esn) [
  | inl q ↦ absurd (last (omega arith))
  | inr (inl q) ↦ q
  | inr (inr q) ↦ absurd (last (omega arith))
] where
  last : last_esn ≤ g → ⊥
  last q = let z = (h (numbered e last_esn) (omega arith) (omega arith) (omega arith)).below in omega arith

pub says_grows : (hs : List Happened) (old : Register) (e : Move) (d : Done) (made more : List Made) (l b n : ℕ) (x : What) → Says hs made l b n x → Says (hs ++ told old e d ∷ []) (more ++ made) l b n x
says_grows hs old e d made more l b n x (inl s) = inl (record { own = s.own; payload = s.payload; is = s.is; appended = (s.appended.0, appends_grows hs old e d l n s.appended.0 s.payload s.appended.1) })
says_grows hs old e d made more l b n x (inr s) = inr (record { later = s.later; basis = s.basis; planned = In_right _ more made s.planned; item = s.item })

pub said_grows : (hs : List Happened) (e : Move) (d : Done) (made more : List Made) (r k : Register) → Up r k → (l b n : ℕ) (x : What) → Said hs made r l b n x → Said (hs ++ told r e d ∷ []) (more ++ made) k l b n x
said_grows hs e d made more r k u l b n x s = let v = u l in let a = v.0 in let z = v.1 in let q = s.reached in record {
  given = entry_grows hs r e d l b n x s.given;
  reached = (q.0, let y = q.1 in omega arith);
  says = says_grows hs r e d made more l b n x s.says;
}

pub here_grows : (c : Config) (hs : List Happened) (e : Move) (d : Done) (made more : List Made) (sent after : List Msg) (r k : Register) (into : (m : Msg) → In m sent → In m after) → Up r k → Stays c r k → (l b n : ℕ) (x : What) → SaidHere hs made r l b n x → SaidHere (hs ++ told r e d ∷ []) (more ++ made) k l b n x
here_grows c hs e d made more sent after r k into u s l b n x h = let v = u l in let a = v.0 in let z = v.1 in let q = h.reached in record {
  given = entry_grows hs r e d l b n x h.given;
  reached = (q.0, let y = q.1 in omega arith);
  says = elim h.says [ inl p ↦ inl (says_grows hs r e d made more l b n x p) | inr (inl p) ↦ inr (inl (known_good_grows c hs e d made more sent after r k into u s l b n x p)) | inr (inr p) ↦ inr (inr (of_loss_grows c hs e d made more sent after r k into u s l b n x p)) ];
}

module _ (c : Config) (hs : List Happened) (w : World) (e : Move) (B : Base c hs w) (G : Given c hs w.state) (O : OnlyClosed w.state.register) (A : AllSaid c hs w.made w.state.register w.state) where
  abbrev pub next : List Happened
  next = hs ++ step_happened c w.state e ∷ []

  abbrev pub plans_now : List Made
  plans_now = made_on c w.state (event_of e) ++ w.made

  abbrev pub reg : Register
  reg = (Calm.moves c w.state e).state.register

  abbrev pub after : List Msg
  after = (after_step c w e).state.network.sent

  abbrev pub SaidNow : ℕ → ℕ → ℕ → What → Type 0
  SaidNow = Said next plans_now reg

  abbrev pub TrimNow : ℕ → ℕ → Type 0
  TrimNow = TrimFine c next after reg

  abbrev pub CloseNow : ℕ → ℕ → Summary → Type 0
  CloseNow = CloseFine c next plans_now after reg

  abbrev pub ReachedNow : ℕ → ℕ → Type 0
  ReachedNow = Reached reg

  abbrev pub ShowNow : ℕ → Bool → Entry → Type 0
  ShowNow = ShowFine c next plans_now after reg

  abbrev pub ReleaseNow : ℕ → ℕ → Type 0
  ReleaseNow = ReleaseFine c next after reg

  abbrev pub HereNow : ℕ → ℕ → ℕ → What → Type 0
  HereNow = SaidHere next plans_now reg

  abbrev pub GoodNow : ℕ → ℕ → ℕ → Type 0
  GoodNow = LngFine c next after reg

  pub up : Up w.state.register reg
  up = (follows c w.state e B.0.0 O).0

  -- what the step is given: summaries and messages stay, what is released before and after it, what is known good, what a clean node shows, and what a recovery closes with
  module _ (stays : Stays c w.state.register reg) (into : (m : Msg) → In m w.state.network.sent → In m after)
      (released_before : (name : List ℕ) (q : Sequencer) → find_named name w.state.sequencers ≡ Some q → ReleaseFine c hs w.state.network.sent w.state.register q.log (released_of q))
      (released_after : (name : List ℕ) (q p : Sequencer) → Live w.state name q → find_named name (Calm.moves c w.state e).state.sequencers ≡ Some p → ReleaseNow q.log (released_of p))
      (good_before : (name : List ℕ) (q : Sequencer) → find_named name w.state.sequencers ≡ Some q → LngFine c hs w.state.network.sent w.state.register q.log q.epoch q.lng)
      (clean_shown : (n l : ℕ) → (from : ℕ) (y : Summary) (k : ℕ) (x : Entry) → (log_of (node_at w.state n).plain l).trim < from → summary_at (log_of (node_at w.state n).plain l) (home_epoch from) ≡ Some y → home_esn from < y.end → is_lost (log_of (node_at w.state n).plain l) (home_epoch from) ≡ false
      → In (k, x) (log_of (node_at w.state n).plain l).entries → from ≤ x.number → x.number ≤ numbered (home_epoch from) (y.end - 1) → is_bridge x.what ≡ false → ClosedEntry c hs w.made w.state.network.sent w.state.register l x)
      (closing : (name : List ℕ) (q : Sequencer) (v : Recovery) (y : Summary) (short : Bool) → Live w.state name q → q.recovery ≡ Some v → Ending q (HeardOf w.state q) v y short → lce_of w.state.register q.log + 1 ≡ v.epoch → Summarized c hs w.made w.state.network.sent w.state.register q.log v.epoch y)
      (fresh : FreshLosses (made_on c w.state (event_of e)) w.state.register) where
    G1 : (l b n : ℕ) (x : What) → Said hs w.made w.state.register l b n x → SaidNow l b n x
    G1 = said_grows hs e (Calm.moves c w.state e) w.made (made_on c w.state (event_of e)) w.state.register reg up

    grow_good : (l k g : ℕ) → LngFine c hs w.state.network.sent w.state.register l k g → GoodNow l k g
    grow_good = lng_fine_grows c hs e (Calm.moves c w.state e) w.made (made_on c w.state (event_of e)) w.state.network.sent after w.state.register reg into up stays

    now : Carries c w.state e SaidNow TrimNow CloseNow ReachedNow ShowNow ReleaseNow HereNow GoodNow w.state
    now = carries_grow (Said hs w.made w.state.register) (TrimFine c hs w.state.network.sent w.state.register) (CloseFine c hs w.made w.state.network.sent w.state.register) (Reached w.state.register) (ShowFine c hs w.made w.state.network.sent w.state.register) (ReleaseFine c hs w.state.network.sent w.state.register) (SaidHere hs w.made w.state.register) (LngFine c hs w.state.network.sent w.state.register)
        SaidNow TrimNow CloseNow ReachedNow ShowNow ReleaseNow HereNow GoodNow G1
        (trim_fine_grows c hs e (Calm.moves c w.state e) w.made (made_on c w.state (event_of e)) w.state.network.sent after w.state.register reg into up stays)
        (close_fine_grows c hs e (Calm.moves c w.state e) w.made (made_on c w.state (event_of e)) w.state.network.sent after w.state.register reg into up stays)
        (λ l k h. (h.0, let z = (up l).0 in let y = h.1 in omega arith))
        (show_grows c hs e (Calm.moves c w.state e) w.made (made_on c w.state (event_of e)) w.state.network.sent after w.state.register reg into up stays fresh)
        (release_grows c hs e (Calm.moves c w.state e) w.made (made_on c w.state (event_of e)) w.state.network.sent after w.state.register reg into up stays)
        (here_grows c hs e (Calm.moves c w.state e) w.made (made_on c w.state (event_of e)) w.state.network.sent after w.state.register reg into up stays) grow_good c w.state e w.state A

    sound : carried.Sound SaidNow TrimNow CloseNow ReachedNow ShowNow ReleaseNow HereNow GoodNow
    sound = record {
      zero_trim = λ l n a b o. absurd (omega arith);
      place = λ l b n x s. s.given.place.above;
      reached = λ l b n x s. s.reached;
      closing_trim = λ l k y h. h.0;
      zero_closed = λ l. ((λ n a b o. absurd (omega arith)), inl (refl, refl, refl));
      zero_released = λ l. record { acked = λ n a b o. absurd (omega arith); closed = omega arith };
      kept = λ l b n x s. record { given = s.given; reached = s.reached; says = inl s.says };
      zero_good = λ l k n a b o. absurd (omega arith);
      good_below = λ l k g h. good_low c next after reg l k g h;
      whole = λ l b n x s. s.given.kept;
    }

    reached_own : (name : List ℕ) (q : Sequencer) → find_named name w.state.sequencers ≡ Some q → Reached reg q.log q.epoch
    reached_own name q f = let o = B.0.1.epochs in let a = o.drawn name q f in let p = o.positive name q f in let u = (up q.log).0 in (p, omega arith)

    append_said : (name : List ℕ) (q : Sequencer) (payload : List ℕ) → Live w.state name q → GivenEntry next q.log q.epoch (numbered q.epoch (next_esn q)) (Rec payload) → next_esn q ≤ last_esn → Said next plans_now reg q.log q.epoch (numbered q.epoch (next_esn q)) (Rec payload)
    append_said name q payload v g b = let ep : epoch_of (numbered q.epoch (next_esn q)) ≡ q.epoch = omega arith in record {
      given = g;
      reached = subst (Reached reg q.log) (sym ep) (reached_own name q v.named);
      says = inl (record { own = sym ep; payload = payload; is = refl; appended = g.appended payload refl });
    }

    plan_said : (name : List ℕ) (q : Sequencer) (v : Recovery) (d : Basis) → find_named name w.state.sequencers ≡ Some q → q.recovery ≡ Some v → In (plan_of q.log v.epoch q.epoch d) plans_now
        → ((t : Told) → In t d.digest → (f : Entry) → In f t.entries → GivenEntry next q.log f.ballot f.number f.what) → digest_lng d.digest < last_esn → (i : Item) → In i (plan v.epoch d.loss d.digest).items → Said next plans_now reg q.log q.epoch i.number i.what × (epoch_of i.number ≡ v.epoch)
    plan_said name q v d f r m D L i j =
        let p = plan_items v.epoch d.loss d.digest i j in
        let en = end_place next q.log q.epoch v.epoch d.digest D L in
        let a = p.above in let b = p.below in let nm = p.number in
        let rec = (subst (carried.RecoveryOk SaidNow TrimNow CloseNow ReachedNow ShowNow ReleaseNow HereNow GoodNow q.log q.epoch) r (now.sequencers name q f).recovery).0 in
        let lo = rec.0 in let hi = rec.1 in
        let ep : epoch_of i.number ≡ v.epoch = omega arith in
        let es : esn_of i.number ≡ p.place = omega arith in
        let own = reached_own name q f in let top = own.1 in (
          record {
            given = plan_given next q.log q.epoch v.epoch d.digest D L d.loss i j;
            reached = (omega arith, omega arith);
            says = inr (record {
              later = omega arith;
              basis = d;
              planned = subst (λ k. In (plan_of q.log k q.epoch d) plans_now) (sym ep) m;
              item = subst (λ k. plan_at k d (esn_of i.number) ≡ Some i.what) (sym ep) (subst (λ k. plan_at v.epoch d k ≡ Some i.what) (sym es) p.item);
            });
          },
          ep,
        )

    trim_said : (name : List ℕ) (q : Sequencer) (point : ℕ) → Live w.state name q → point ≤ released_of q → TrimNow q.log point
    trim_said name q point v b n le pos o = let r = released_before name q v.named in let u = (up q.log).1 in let k = r.closed in
        acked_grows c hs e (Calm.moves c w.state e) w.made (made_on c w.state (event_of e)) w.state.network.sent after w.state.register reg into up stays q.log n (r.acked n (omega arith) pos (omega arith))

    stage_of : (name : List ℕ) (q : Sequencer) (v : Recovery) (g : Stage) → find_named name w.state.sequencers ≡ Some q → q.recovery ≡ Some v → v.stage ≡ g → carried.StageOk SaidNow TrimNow CloseNow ReachedNow ShowNow ReleaseNow HereNow GoodNow q.log q.epoch v.epoch g
    stage_of name q v g f r k = subst (carried.StageOk SaidNow TrimNow CloseNow ReachedNow ShowNow ReleaseNow HereNow GoodNow q.log q.epoch v.epoch) k (subst (carried.RecoveryOk SaidNow TrimNow CloseNow ReachedNow ShowNow ReleaseNow HereNow GoodNow q.log q.epoch) r (now.sequencers name q f).recovery).1

    closing_trims : (name : List ℕ) (q : Sequencer) (v : Recovery) (y : Summary) (short : Bool) → find_named name w.state.sequencers ≡ Some q → q.recovery ≡ Some v → Ending q (HeardOf w.state q) v y short → TrimNow q.log y.trim
    closing_trims name q v y short f r g = trim_by (ended_by q (HeardOf w.state q) v y short g) where
      trim_by : (v.stage ≡ Closes y short) ⊎ OfStored q v y → TrimNow q.log y.trim
      trim_by (inl k) = (stage_of name q v (Closes y short) f r k).0
      trim_by (inr k) = subst (TrimNow q.log) (sym k.trim) (stage_of name q v (Stores k.storing) f r k.stage).0.0

    closed_said : (name : List ℕ) (q : Sequencer) (v : Recovery) (y : Summary) (short : Bool) → Live w.state name q → q.recovery ≡ Some v → Ending q (HeardOf w.state q) v y short → lce_of w.state.register q.log + 1 ≡ v.epoch → close w.state.register q.log v.epoch y short ≡ record { register = reg; answer = Granted } → CloseNow q.log v.epoch y
    closed_said name q v y short live r t h g = let s = (close_granted w.state.register q.log v.epoch y short reg h g).0 in elim (epochs_put w.state.register q.log q.log (closed_epochs (epochs_of w.state.register q.log) v.epoch y)) [
      | inl a ↦
          let eq = epochs_same (with_epochs w.state.register q.log (closed_epochs (epochs_of w.state.register q.log) v.epoch y)) reg q.log s ∙ a.1 in
          let z : lce_of reg q.log ≡ v.epoch = ap (λ (x : Epochs). x.lce) eq in (
            closing_trims name q v y short live.named r t,
            inr (record {
              found_so = ap (λ (x : Epochs). find v.epoch x.summaries) eq ∙ find-put_same v.epoch v.epoch y (epochs_of w.state.register q.log).summaries refl;
              positive = omega arith;
              low = omega arith;
              plan = summarized_grows c hs e (Calm.moves c w.state e) w.made (made_on c w.state (event_of e)) w.state.network.sent after w.state.register reg into up stays q.log v.epoch y (closing name q v y short live r t h);
            }),
          )
      | inr a ↦ absurd (a.0 refl)
    ]

    -- a refilled entry says what the closing plan says, or was known good
    refill_said : (n l : ℕ) (x : Entry) → ShowNow l true x → HereNow l x.ballot x.number x.what → is_missing (log_of (node_at w.state n).plain l) x.number ≡ true → (y : Summary) × (find (epoch_of x.number) (log_of (node_at w.state n).plain l).summaries ≡ Some y) → HereNow l (as_closed (log_of (node_at w.state n).plain l) x).ballot x.number x.what
    refill_said n l x s d m f =
        let k = ((now.nodes n).plain l).summaries (epoch_of x.number, f.0) (find_in (epoch_of x.number) (log_of (node_at w.state n).plain l).summaries f.0 f.1) in
        let same : f.0 ≡ s.summary = elim k.1 [ inl z ↦ absurd (let p = s.closed.positive in let y = z.0 in omega arith) | inr z ↦ Some_inj (sym z.found_so ∙ s.closed.found_so) ] in
        let b : ballot_of x.ballot (find (epoch_of x.number) (log_of (node_at w.state n).plain l).summaries) ≡ s.summary.ballot = ap (ballot_of x.ballot) f.1 ∙ ap (λ (z : Summary). z.ballot) same in
        subst (λ v. HereNow l v x.number x.what) (sym b) (record {
          given = record { place = d.given.place; appended = d.given.appended; kept = d.given.kept };
          reached = d.reached;
          says = elim s.says [ inl p ↦ inl (inr p) | inr (inl p) ↦ inr (inl (record { summary = s.summary; found_so = s.closed.found_so; ballot = refl; good = p })) | inr (inr p) ↦ inr (inr (record { summary = s.summary; found_so = s.closed.found_so; ballot = refl; says = p; content = s.content })) ];
        })

    home_low : (from : ℕ) → numbered (home_epoch from) 0 ≤ from
    home_low from = cond_both ((esn_of from == 0) && nat_lt 0 (epoch_of from)) (epoch_of from - 1) (epoch_of from) (λ z. numbered z 0 ≤ from) (λ t. omega arith) (λ t. omega arith)

    open_shown : (n l from : ℕ) (k : ℕ) (x : Entry) → lets_read (Step.released_at (node_at w.state n) l) from ≡ true → In (k, x) (log_of (node_at w.state n).plain l).entries → from ≤ x.number → x.number ≤ Step.released_at (node_at w.state n) l → ShowNow l false x
    open_shown n l from k x h i lo hi =
        let r = Step.released_at (node_at w.state n) l in
        let p = and_parts (nat_lt 0 (esn_of r) && (epoch_of r == home_epoch from)) (nat_le from r) h in
        let q = and_parts (nat_lt 0 (esn_of r)) (epoch_of r == home_epoch from) p.0 in
        let pl = (((now.nodes n).plain l).entries (k, x) i).1.given.place.above in
        let ep : epoch_of r ≡ home_epoch from = eqb-true _ _ q.1 in
        let ho = home_low from in
        ((now.nodes n).released l).acked x.number (omega arith) pl hi

    -- where a summary comes from
    Came : ℕ → ℕ → Summary → Type 0
    Came l k y = (find k (epochs_of w.state.register l).summaries ≡ Some y) ⊎ ((name : List ℕ) × (q : Sequencer) × (v : Recovery) × (short : Bool) × Live w.state name q × (q.recovery ≡ Some v) × Ending q (HeardOf w.state q) v y short × (lce_of w.state.register q.log + 1 ≡ v.epoch) × (l ≡ q.log) × (k ≡ v.epoch))

    came : OfSummaries Came (Calm.moves c w.state e).state.register
    unfolding Came
    came = summaries_after c w.state e Came (λ l k y f. inl f) (λ name q v y short live r t h o. inr (name, q, v, short, live, r, t, h, refl, refl)) B.0.0

    register_now : carried.RegisterOk SaidNow TrimNow CloseNow ReachedNow ShowNow ReleaseNow HereNow GoodNow (Calm.moves c w.state e).state.register
    unfolding Came
    register_now l k y f = elim (came l k y f) [
      | inl a ↦ now.register l k y a
      | inr (name, q, v, short, live, r, t, h, il, ik) ↦
          let plan = summarized_grows c hs e (Calm.moves c w.state e) w.made (made_on c w.state (event_of e)) w.state.network.sent after w.state.register reg into up stays q.log v.epoch y (closing name q v y short live r t h) in (
            subst (λ z. TrimNow z y.trim) (sym il) (closing_trims name q v y short live.named r t),
            inr (record {
              found_so = f;
              positive = omega arith;
              low = (follows c w.state e B.0.0 O).1 l k y f;
              plan = subst (λ z. Summarized c next plans_now after reg z k y) (sym il) (subst (λ z. Summarized c next plans_now after reg q.log z y) (sym ik) plan);
            }),
          )
    ]

    sources : Sources c w.state e SaidNow TrimNow CloseNow ReachedNow ShowNow ReleaseNow HereNow GoodNow
    sources = record {
      sound = sound;
      before = now;
      apart = B.1.1;
      epochs = λ name q f k u v. (u, let z = (reached_own name q f).1 in omega arith);
      new_epochs = λ l r i k u v. (u, let z : (epochs_of reg l).epoch ≡ (epochs_of r l).epoch = ap (λ n. (epochs_of n l).epoch) i in omega arith);
      register = register_now;
      append = λ name q payload v a i x. append_said name q payload v (append_given c hs w e B G name q payload v a i x) (counts_of c hs w B name q v.named).small;
      trim = λ name q point v b x. trim_said name q point v b;
      planned = λ name q v d loss gone l r D m i j. plan_said name q v (record { loss = loss; digest = d; gone = gone }) l.named r (subst (λ (z : List Made). In (plan_of q.log v.epoch q.epoch (record { loss = loss; digest = d; gone = gone })) (z ++ w.made)) (sym m) (inl refl)) (λ z p x o. ((D z p).entries x o).given)
          (good_low c next after reg q.log v.epoch _ (sequencers.digest_good SaidNow TrimNow CloseNow ReachedNow ShowNow ReleaseNow HereNow GoodNow sound q.log v.epoch _ D)) i j;
      closed = λ name q v y short l r d k g. closed_said name q v y short l r d k g;
      refill = λ n m round from upto es i t v b u x j k. let z : carried.BodyOk SaidNow TrimNow CloseNow ReachedNow ShowNow ReleaseNow HereNow GoodNow m.log m.from m.body = (now.sent m i).0 in
          let p = told_entry x es j (message_whole m n round from upto es t b (now.sent m i).1 x j) in
          let y = subst (carried.BodyOk SaidNow TrimNow CloseNow ReachedNow ShowNow ReleaseNow HereNow GoodNow m.log m.from) b z in
          refill_said n m.log x (y.0.1 x p) (y.0.0 x p) k (missing_clean (log_of (node_at w.state n).plain m.log) x.number k);
      shows = λ n l v. record {
        clean = λ from y k x a b d f i lo hi o. show_grows c hs e (Calm.moves c w.state e) w.made (made_on c w.state (event_of e)) w.state.network.sent after w.state.register reg into up stays fresh l true x (clean_shown n l from y k x a b d f i lo hi o);
        open_still = λ from k x h i lo hi. open_shown n l from k x h i lo hi;
      };
      good = λ name q f. grow_good q.log q.epoch q.lng (good_before name q f);
      own = λ name q f. let u = counts_of c hs w B name q f in own_epoch q u.row u.small;
      small = λ name q f. (counts_of c hs w B name q f).small;
      released = released_after;
    }

    pub said_step : AllSaid c next plans_now reg (after_step c w e).state
    said_step = carried_on c w.state e SaidNow TrimNow CloseNow ReachedNow ShowNow ReleaseNow HereNow GoodNow B.0.0 sources
