-- Each step keeps what holds of nodes, pages, digests, plans, acknowledgements and copies.
use Rattle.std.proofs.Common.{◌≡◌, ◌∙◌, ◌⊎◌, ◌≤◌, ◌<◌, ℕ, ◌+◌, inl, inr, refl, ap, sym, subst, Bool, true, false, not, ◌&&◌, ◌||◌, ◌==◌, if◌then◌else◌, List, [], ◌∷◌, ◌++◌, Option, Some, None, is_some, arith, ◌-◌}
use Rattle.ld_safety.proofs.Copies.{KnownSettled}
use Rattle.ld_safety.proofs.Members.{find_in}
use Rattle.ld_msg.specs.declared.msg.Who.{Who}
use Rattle.ld_safety.proofs.CopiesKept.{NodeCopies, copies_later, copies_keep, copies_sent}
use Rattle.ld_safety.proofs.Storings.{SettlersOf, StoringFine, ReplyFine, full_close, full_later, full_stands, short_stands, settles_fine}
use Rattle.ld_safety.proofs.CarriedSteps.{HeardOf}
use Rattle.ld_safety.proofs.Shown.{clean_entry}
use Rattle.ld_msg.specs.declared.msg.Body.{Body}
use Rattle.ld_ids.specs.declared.set.Spec.{Spec}
use Rattle.ld_ids.specs.Choice.{nodes_of}
use Rattle.ld_safety.proofs.Given.{appends_grows, AppendedBy}
use Rattle.ld_safety.proofs.SequencerSteps.{Ending, ends_again, ends_settled, ends_lost, ends_ready}
use Rattle.ld_msg.specs.Digest.{is_bridge}
use Rattle.ld_machine.specs.Config.{fixed_of, fixed_at, looks_at}
use Rattle.ld_safety.proofs.Numbers.{one_payload, below_last}
use Rattle.ld_msg.specs.declared.msg.Summary.{Summary}
use Rattle.ld_op.specs.Handles.{ballot_of}
use Rattle.ld_op.specs.Plain.{Plain, log_of, summary_at, is_lost, epoch_zero, lng_at}
use Rattle.ld_safety.proofs.Acks.{AcksFine, released_fine, good_fine, acks_later}
use Rattle.ld_safety.proofs.Cleans.{Keyed}
use Rattle.ld_safety.proofs.Appends.{RowOf}
use Rattle.ld_safety.proofs.AcksKept.{acks_cases}
use Rattle.ld_safety.proofs.CleansKept.{NodeClean, cleans_keep}
use Rattle.ld_safety.proofs.Senders.{AnswersFrom, sender_cases}
use Rattle.std.specs.Option.{unwrap_or}
use Rattle.ld_table.specs.Table.{find}
use Rattle.ld_table.specs.Named.{find_named}
use Rattle.ld_lsn.specs.Number.{epoch_of, home_epoch, home_esn, numbered, last_esn}
use Rattle.ld_config.specs.declared.config.Config.{Config}
use Rattle.ld_msg.specs.declared.msg.What.{What}
use Rattle.ld_msg.specs.declared.msg.Entry.{Entry}
use Rattle.ld_msg.specs.declared.msg.Msg.{Msg}
use Rattle.ld_msg.specs.declared.msg.Body.TheVariants as bodies
use Rattle.ld_msg.specs.Register.{Register, Changed, Granted, is_overtaken, no_epochs, epochs_of, lce_of, draw, activate}
use Rattle.ld_msg.specs.Sequencer.{Sequencer, released_of, Recovery, appending, Numbered, Stage, next_esn, Seals, Closes, settled_by, is_fully_ready, is_ready_short, summary_of, Storing, Stores}
use Rattle.ld_machine.specs.Disk.{Cut, load}
use Rattle.ld_machine.specs.State.{Done, finish, node_at}
use Rattle.ld_machine.specs.Facts.{Happened, AsksToAppend}
use Rattle.ld_machine.specs.World.{World, Made, Joined, In, from_node, joined_on, MayHold, made_on, gone_nodes, is_gone, is_cut_gone}
use Rattle.ld_machine.specs.Run.{after_step}
use Rattle.ld_machine.specs.Step as Step
use Rattle.ld_safety.proofs.Lists.{not_none, In-append, In_right, Some_inj, cond_both, not_both}
use Rattle.ld_safety.proofs.Losses.{with_one_in}
use Rattle.ld_safety.proofs.LogsRise.{logs_rise}
use Rattle.ld_safety.proofs.LastClose.{Went, went_cases}
use Rattle.ld_safety.proofs.Closings.{OfSummaries, summaries_after}
use Rattle.ld_safety.proofs.SentDrawn.{answer_before, drawn_step}
use Rattle.ld_safety.proofs.LostUnserved.{AllUnserved}
use Rattle.ld_safety.proofs.LostSaid.{LostWithin, within_keeps, unserved_gone, served_not}
use Rattle.ld_safety.proofs.LostSaid as lost
use Rattle.ld_safety.proofs.LossBook.{LossKept, loss_made, loss_step, found_below}
use Rattle.ld_table.specs.Words.{is_in, with_one}
use Rattle.std.proofs.lemmas.Bool.{cases_Bool, cases_lt, cases_order, and_from, not-false, or_cases, eqb-true}
use Rattle.ld_safety.proofs.Traces.{Keeps, beside_kept, step_happened}
use Rattle.ld_safety.proofs.Steps.{sent_by}
use Rattle.ld_safety.proofs.Events.{dispatch, Live}
use Rattle.ld_safety.proofs.RegisterSteps.{draw_leaves}
use Rattle.ld_safety.proofs.Registers.{each_closed, Up, OnlyClosed, follows, summaries_stay, specs_stay, spec_stays}
use Rattle.ld_safety.proofs.Base.{Base, counts_of}
use Rattle.ld_safety.proofs.GivenSteps.{Given, BaseGiven, given_kept, append_given}
use Rattle.ld_safety.proofs.Protocol.{Basis, plan_of, Says, Kept, PlansOnce, AppendsOnce, tells_stored, StoredBy, TrimmedBy}
use Rattle.ld_safety.proofs.Said.{good_low, Reached, Said, SaidHere, says_grows, said_step}
use Rattle.ld_safety.proofs.Settled.{hole_grows, Open, LostTold, FreshLosses, close_low, ReleaseFine, LngFine, Stays, Acknowledged, chosen_more, Summarized, ClosedEntry}
use Rattle.ld_safety.proofs.Holdings.{Known, Holding}
use Rattle.ld_safety.proofs.HoldSteps.{UpFine, ups_keep}
use Rattle.ld_safety.proofs.HoldKept.{NodeHolds, holds_keep, node_later, ends_later, load_node}
use Rattle.ld_safety.proofs.NodeCases.{node_cases}
use Rattle.ld_safety.proofs.Sent.{Allowed, SendsFine, sends_cases, network_same, holds_sent, ShowsAll, PagesBounded, shows_sent, bounded_sent}
use Rattle.ld_safety.proofs.Digesting.{digest_good, FullAt, NewPlan, InRecovery, RecoveryFine, StageFine}
use Rattle.ld_safety.proofs.DigestKept.{heard_digest, pages_good, lost_said, Result, digest_cases, recovery_later, up_same, stays_same, acked_stays, cleaned_closed, reply}
use Rattle.ld_safety.proofs.Plannings.{in_nodes, Test, PlanMade, just_made, plan_later, plan_sent, into, ends_in}
use Rattle.ld_safety.proofs.Has as has
use Rattle.ld_safety.proofs.Holes.{no_record_beside}
use Rattle.ld_safety.proofs.Rising.{found_rising}
use Rattle.ld_safety.proofs.LostFullKept.{FullNode, full_keeps}
use Rattle.ld_safety.proofs.Marks.{Marked, OfSet, HoleClosed, served_later, served_positive}
use Rattle.ld_safety.proofs.MarksKept.{MarkedNode, marks_keep}
use Rattle.ld_safety.proofs.LngLow.{LowAt, PagesLow}
use Rattle.ld_safety.proofs.LngBelow.{plans_low}
use Rattle.ld_safety.proofs.Plans.{lng_least}
use Rattle.ld_safety.proofs.Sends.{PageIn}
use Rattle.ld_safety.proofs.NodeSteps.{Served}
use Rattle.ld_safety.proofs.Digests.{Covered, DigestSoFar, asks_anew}
use Rattle.ld_msg.specs.Digest.{Told, digest_lng, with_asks}
use Rattle.ld_safety.proofs.InSet as inset
use Rattle.ld_safety.proofs.InSet.{LookIn}
use Rattle.ld_safety.proofs.LookedUp.{AllLook, look_cases}
use Rattle.ld_safety.proofs.Joins.{joins_more, now_members, activated_in, follow_step, joined_step}
use Rattle.ld_safety.proofs.Answered.{trims_answered, pages_answered}
use Rattle.ld_safety.proofs.AcksKept as acks
use Rattle.ld_msg.specs.declared.msg.Who.TheVariants as whos
use Rattle.ld_transcript.specs.declared.line.Line.TheVariants as lines
use Rattle.ld_safety.proofs.Along.{Along, LastPlan, ClosedHow, closed_last, start_along, PlainSaid, BodySaidIn, zero_release}
use Rattle.ld_safety.proofs.Withheld.{told_entry}
use Rattle.ld_safety.proofs.Carried.{message_whole}
use Rattle.ld_machine.specs.Calm as Calm
use Rattle.ld_machine.specs.Calm.{Move, event_of}

-- ---- every step ----
module _ (c : Config) (hs : List Happened) (w : World) (e : Move) (B : Base c hs w) (G : Given c hs w.state) (R : Along c hs w) where
  d : Done
  d = Calm.moves c w.state e

  r : Register
  r = w.state.register

  pub follow : Up w.state.register (Calm.moves c w.state e).state.register × OnlyClosed (Calm.moves c w.state e).state.register
  follow = follows c w.state e B.0.0 B.1.0

  pub stays : Stays c w.state.register (Calm.moves c w.state e).state.register
  stays = record { summaries = summaries_stay c w.state e B.0.0 B.1.0; specs = spec_stays c w.state.register (Calm.moves c w.state e).state.register follow.0 (specs_stay c w.state e B.0.0) }

  pub settlers : SettlersOf c w.state.register w.state.network.sent
  settlers l y b n x (inl q) i = R.stored_of l y n b (subst (λ z. In (from_node l y b z) w.state.network.sent) q i)
  settlers l y b n x (inr q) i = R.trimmed_of l y b n q.0 (subst (λ z. In (from_node l y b z) w.state.network.sent) q.1 i)

  drawn_known : (n : ℕ) (k : Register) → draw w.state.register n ≡ record { register = k; answer = Granted } → Known w.made w.state.network.sent k
  drawn_known n k q = record { stored = λ l y s b i. reached l (epoch_of s) (R.said.sent _ i).0; pages = λ l y b from upto t lng es i. reached l (epoch_of from) (R.said.sent _ i).0.0.reached } where
    logs : k.logs ≡ w.state.register.logs
    logs = ap (λ (x : Changed). x.register.logs) (sym q) ∙ elim (draw_leaves w.state.register n) [ inl a ↦ a.0 | inr a ↦ a.0 ]

    reached : (l x : ℕ) → Reached w.state.register l x → Reached k l x
    reached l x h = (h.0, let z : (epochs_of k l).epoch ≡ (epochs_of w.state.register l).epoch = ap (λ m. (unwrap_or (find l m) no_epochs).epoch) logs in let y = h.1 in omega arith)

  ups_now : (y : ℕ) → UpFine (node_at (Calm.moves c w.state e).state y)
  ups_now = dispatch c w.state e (λ d m. (y : ℕ) → UpFine (node_at d.state y)) B.0.0 (node_cases c w.state e (λ y x. UpFine x) (ups_keep c w.state e R.ups))

  holds_now : (y : ℕ) → NodeHolds w.made w.state.network.sent y (node_at (Calm.moves c w.state e).state y)
  holds_now = dispatch c w.state e (λ d m. (y : ℕ) → NodeHolds w.made w.state.network.sent y (node_at d.state y)) B.0.0
      (node_cases c w.state e (NodeHolds w.made w.state.network.sent) (holds_keep c w.state e hs w.made w.state.register R.said R.holds drawn_known))

  pub sends_now : SendsFine (Calm.moves c w.state e).state (Calm.moves c w.state e).sends
  sends_now = dispatch c w.state e (λ d m. SendsFine d.state d.sends) B.0.0 (sends_cases c w.state e hs w.made w.state.register R.said R.holds R.ups)

  pub same_sent : (Calm.moves c w.state e).state.network.sent ≡ w.state.network.sent
  same_sent = network_same c w.state e B.0.0

  pub digests_now : Result c w.state e hs w.made R.said B.0.1.epochs R.shows R.bounded R.below R.recoveries R.stored_from R.each settlers (Calm.moves c w.state e) (made_on c w.state (event_of e))
  digests_now = dispatch c w.state e (Result c w.state e hs w.made R.said B.0.1.epochs R.shows R.bounded R.below R.recoveries R.stored_from R.each settlers) B.0.0 (digest_cases c w.state e hs w.made R.said B.0.1.epochs R.shows R.bounded R.below R.recoveries R.stored_from R.each settlers)

  abbrev after_sent : List Msg
  after_sent = (finish (Calm.moves c w.state e)).state.network.sent

  abbrev reg : Register
  reg = (Calm.moves c w.state e).state.register

  abbrev all_made : List Made
  all_made = made_on c w.state (event_of e) ++ w.made

  abbrev next : List Happened
  next = hs ++ step_happened c w.state e ∷ []

  shows_next : ShowsAll all_made after_sent
  shows_next l y b from upto t lng es n a i j q lo hi lt =
      kept_next l b t es n a (shows_sent w.made w.state.network.sent (Calm.moves c w.state e) sends_now same_sent holds_now R.shows l y b from upto t lng es n a i j q lo hi lt) where
        kept_next : (l b t : ℕ) (es : List Entry) (n a : ℕ) → Kept w.made l (b + 1) t es n a → Kept all_made l (b + 1) t es n a
        kept_next l b t es n a (inl h) = inl h
        kept_next l b t es n a (inr (inl h)) = inr (inl h)
        kept_next l b t es n a (inr (inr h)) = inr (inr (ends_later w.made (made_on c w.state (event_of e)) w.state.network.sent l a (b + 1) n h))

  bounded_next : PagesBounded after_sent
  bounded_next l y b from upto t lng es f i j = bounded_sent w.made w.state.network.sent (Calm.moves c w.state e) sends_now same_sent holds_now R.bounded l y b from upto t lng es f i j

  pub new_plan : (l x b : ℕ) (f : Basis) → In (plan_of l x b f) (made_on c w.state (event_of e)) → NewPlan c hs w.state.network.sent (gone_nodes w.state) w.made w.state.register l x b f × (b ≤ (epochs_of w.state.register l).epoch)
  new_plan = (digests_now follow.0 stays).1

  grows_now : (l b n : ℕ) (x : What) → Says hs w.made l b n x → Says next all_made l b n x
  grows_now l b n x h = says_grows hs w.state.register e (Calm.moves c w.state e) w.made (made_on c w.state (event_of e)) l b n x h

  plan_next : (l x b : ℕ) (f : Basis) → PlanMade c hs w.state.network.sent w.made w.state.register l x b f → PlanMade c next after_sent all_made reg l x b f
  plan_next l x b f p = plan_later c hs next w.made (made_on c w.state (event_of e)) after_sent w.state.register reg follow.0 stays grows_now l x b f
      (plan_sent c hs w.made w.state.network.sent w.state.register (Calm.moves c w.state e) sends_now same_sent holds_now l x b f p)

  once_next : PlansOnce all_made
  once_next l x b f g i j = elim (In-append _ (made_on c w.state (event_of e)) w.made i) [
    | inl a ↦ elim (In-append _ (made_on c w.state (event_of e)) w.made j) [
      | inl z ↦ (digests_now follow.0 stays).2 l x b f g a z
      | inr z ↦ absurd ((new_plan l x b f a).0.first g z)
    ]
    | inr a ↦ elim (In-append _ (made_on c w.state (event_of e)) w.made j) [
      | inl z ↦ absurd ((new_plan l x b g z).0.first f a)
      | inr z ↦ R.once l x b f g a z
    ]
  ]

  -- ---- what stays ----
  pub into_after : (m : Msg) → In m w.state.network.sent → In m (finish (Calm.moves c w.state e)).state.network.sent
  into_after = into c hs w.made w.state.network.sent w.state.register (Calm.moves c w.state e) sends_now same_sent holds_now

  acks_next : (k : Register) (l n : ℕ) → Acknowledged c hs w.state.network.sent k l n → Acknowledged c (hs ++ step_happened c w.state e ∷ []) w.state.network.sent k l n
  acks_next k l n h = record { reached = h.reached; above = h.above; below = h.below; payload = h.payload; appended = (h.appended.0, appends_grows hs w.state.register e (Calm.moves c w.state e) l n h.appended.0 h.payload h.appended.1); chosen = h.chosen }

  acks_sent : (l n : ℕ) → Acknowledged c (hs ++ step_happened c w.state e ∷ []) w.state.network.sent reg l n → Acknowledged c (hs ++ step_happened c w.state e ∷ []) (finish (Calm.moves c w.state e)).state.network.sent reg l n
  acks_sent l n h = record { reached = h.reached; above = h.above; below = h.below; payload = h.payload; appended = h.appended; chosen = chosen_more (fixed_of c reg l (epoch_of n)) w.state.network.sent (finish (Calm.moves c w.state e)).state.network.sent into_after l n (epoch_of n) h.chosen }

  pub acks_after : (l n : ℕ) → Acknowledged c (hs ++ step_happened c w.state e ∷ []) w.state.network.sent w.state.register l n → Acknowledged c (hs ++ step_happened c w.state e ∷ []) (finish (Calm.moves c w.state e)).state.network.sent (Calm.moves c w.state e).state.register l n
  acks_after l n h = acks_sent l n (acked_stays c (hs ++ step_happened c w.state e ∷ []) w.state.network.sent w.state.register reg follow.0 stays l n h)

  pub acks_both : (l n : ℕ) → Acknowledged c hs w.state.network.sent w.state.register l n → Acknowledged c (hs ++ step_happened c w.state e ∷ []) (finish (Calm.moves c w.state e)).state.network.sent (Calm.moves c w.state e).state.register l n
  acks_both l n h = acks_after l n (acks_next w.state.register l n h)

  -- ---- acknowledgements ----
  pub acks_before : (t : List ℕ) (q : Sequencer) → find_named t w.state.sequencers ≡ Some q → AcksFine c (hs ++ step_happened c w.state e ∷ []) w.state.network.sent w.state.register q
  acks_before t q f = acks_later c hs (hs ++ step_happened c w.state e ∷ []) w.state.network.sent w.state.network.sent (λ m i. i) (λ l n p a. (a.0, appends_grows hs w.state.register e (Calm.moves c w.state e) l n a.0 p a.1)) w.state.register w.state.register (up_same w.state.register) (stays_same c w.state.register) (acks_next w.state.register) q (R.acks t q f)

  pub stored_told_now : (name : List ℕ) (q : Sequencer) → Live w.state name q → (m : Msg) → In m w.state.network.sent → m.to ≡ whos.Sequencer q.epoch → m.log ≡ q.log → (n : ℕ) → m.body ≡ bodies.Stored n → tells_stored w.state.network.sent q.log n q.epoch (Step.sender_node m.from) ≡ true
  stored_told_now name q v m i t l n h = ((reply c w.state e hs w.made R.said B.0.1.epochs R.shows R.bounded R.below R.recoveries R.stored_from R.each settlers name q v m i t l w.state.register (up_same w.state.register) (stays_same c w.state.register)).stored n h).0

  pub rows_before : (t : List ℕ) (v : Sequencer) → find_named t w.state.sequencers ≡ Some v → RowOf v
  rows_before t v f = (counts_of c hs w B t v f).row

  pub cleaned_now : (name : List ℕ) (q : Sequencer) → Live w.state name q → (m : Msg) → In m w.state.network.sent → m.log ≡ q.log → (n : ℕ) (y : Summary) → m.body ≡ bodies.CleanHere n y → home_epoch n ≤ lce_of w.state.register q.log
  cleaned_now name q v m i l n y h = cleaned_closed c w.state e hs w.made R.said B.0.1.epochs R.shows R.bounded R.below R.recoveries R.stored_from R.each settlers name q v m i l n y h

  pub numbers_now : (name : List ℕ) (q : Sequencer) (payload : List ℕ) → Live w.state name q → appending q payload ≡ Numbered → AsksToAppend name payload (event_of e) → In (lines.Appended name (numbered q.epoch (next_esn q))) (Calm.moves c w.state e).lines → (next_esn q < last_esn) × AppendedBy (hs ++ step_happened c w.state e ∷ []) q.log (numbered q.epoch (next_esn q)) payload
  numbers_now name q payload v a i x = (below_last q payload (counts_of c hs w B name q v.named).small a, (append_given c hs w e B G name q payload v a i x).appended payload refl)

  pub acks_now : acks.Result c w.state e (hs ++ step_happened c w.state e ∷ []) acks_before rows_before stored_told_now cleaned_now numbers_now (Calm.moves c w.state e) (made_on c w.state (event_of e))
  acks_now = dispatch c w.state e (acks.Result c w.state e (hs ++ step_happened c w.state e ∷ []) acks_before rows_before stored_told_now cleaned_now numbers_now) B.0.0 (acks_cases c w.state e (hs ++ step_happened c w.state e ∷ []) acks_before rows_before stored_told_now cleaned_now numbers_now)

  released_before : (name : List ℕ) (q : Sequencer) → find_named name w.state.sequencers ≡ Some q → ReleaseFine c hs w.state.network.sent w.state.register q.log (released_of q)
  released_before name q f = released_fine c hs w.state.network.sent w.state.register q (R.acks name q f) (counts_of c hs w B name q f).small

  good_before : (name : List ℕ) (q : Sequencer) → find_named name w.state.sequencers ≡ Some q → LngFine c hs w.state.network.sent w.state.register q.log q.epoch q.lng
  good_before name q f = good_fine c hs w.state.network.sent w.state.register q (R.acks name q f)

  acks_next_state : (t : List ℕ) (q : Sequencer) → find_named t (Calm.moves c w.state e).state.sequencers ≡ Some q → AcksFine c (hs ++ step_happened c w.state e ∷ []) (finish (Calm.moves c w.state e)).state.network.sent (Calm.moves c w.state e).state.register q
  acks_next_state t q f = acks_later c (hs ++ step_happened c w.state e ∷ []) (hs ++ step_happened c w.state e ∷ []) w.state.network.sent (finish (Calm.moves c w.state e)).state.network.sent into_after (λ l n p a. a) (Calm.moves c w.state e).state.register (Calm.moves c w.state e).state.register (up_same (Calm.moves c w.state e).state.register) (stays_same c (Calm.moves c w.state e).state.register) acks_sent q
      (acks_now refl follow.0 stays t q f).0

  released_after : Base c (hs ++ step_happened c w.state e ∷ []) (after_step c w e) → (name : List ℕ) (q p : Sequencer) → Live w.state name q → find_named name (Calm.moves c w.state e).state.sequencers ≡ Some p → ReleaseFine c (hs ++ step_happened c w.state e ∷ []) (finish (Calm.moves c w.state e)).state.network.sent (Calm.moves c w.state e).state.register q.log (released_of p)
  unfolding finish
  released_after C name q p v f = subst (λ l. ReleaseFine c (hs ++ step_happened c w.state e ∷ []) (finish (Calm.moves c w.state e)).state.network.sent (Calm.moves c w.state e).state.register l (released_of p)) ((acks_now refl follow.0 stays name p f).1 q v.named)
      (released_fine c (hs ++ step_happened c w.state e ∷ []) (finish (Calm.moves c w.state e)).state.network.sent (Calm.moves c w.state e).state.register p (acks_next_state name p f) (counts_of c (hs ++ step_happened c w.state e ∷ []) (after_step c w e) C name p f).small)

  -- ---- clean nodes ----
  pub once_before : AppendsOnce hs
  once_before l n p q a b = one_payload hs w.state.sequencers w.state.register B.0.1 l n a.0 b.0 p q a.1 b.1

  -- an entry's ballot isn't below its epoch
  late_enough : (l b n : ℕ) (x : What) → SaidHere hs w.made w.state.register l b n x → epoch_of n ≤ b
  late_enough l b n x h = elim h.says [
    | inl s ↦ elim s [ inl o ↦ (let z = o.own in omega arith) | inr o ↦ (let z = o.later in omega arith) ]
    | inr (inl g) ↦ by_summary g.summary g.found_so g.ballot
    | inr (inr g) ↦ by_summary g.summary g.found_so g.ballot
  ] where
    by_summary : (y : Summary) → find (epoch_of n) (epochs_of w.state.register l).summaries ≡ Some y → b ≡ y.ballot → epoch_of n ≤ b
    by_summary y f q = elim (R.said.register l (epoch_of n) y f).1 [
      | inl z ↦ (let v = z.0 in omega arith)
      | inr k ↦ (let z = (R.plans l (epoch_of n) y.ballot k.plan.basis k.plan.planned).later in omega arith)
    ]

  keyed_plain : (y : ℕ) (p : Plain) → PlainSaid c hs w p → Holding w.made w.state.network.sent y p → (l : ℕ) → Keyed (log_of p l)
  keyed_plain y p O H l = ((H.fine l).rising, λ q i. let z = (O l).entries q i in (z.0, subst (λ n. epoch_of n ≤ q.1.ballot) z.0 (late_enough l q.1.ballot q.1.number q.1.what z.1)))

  keyed_now : (y l : ℕ) → Keyed (log_of (node_at w.state y).plain l)
  keyed_now y l = keyed_plain y (node_at w.state y).plain (R.said.nodes y).plain (R.holds y).0 l

  keyed_load : (y l : ℕ) → Keyed (log_of (load (node_at w.state y)).plain l)
  keyed_load y l = keyed_plain y (load (node_at w.state y)).plain (has.load_has _ _ _ _ _ _ (λ y l. zero_release c hs w l) y (node_at w.state y) (R.said.nodes y)).plain (load_node w.made w.state.network.sent y (node_at w.state y) (R.holds y)).0 l

  cleans_now : (y : ℕ) → NodeClean y (node_at (Calm.moves c w.state e).state y)
  cleans_now = dispatch c w.state e (λ d m. (y : ℕ) → NodeClean y (node_at d.state y)) B.0.0
      (node_cases c w.state e NodeClean (cleans_keep c w.state e R.cleans keyed_now keyed_load))

  body_says : (l : ℕ) (from : Who) (n lng : ℕ) (x : What) → BodySaidIn c hs w l from (bodies.Store n lng x) → Said hs w.made w.state.register l (ballot_of from) n x
  body_says l from n lng x h = h.0

  store_says : (m : Msg) (n lng : ℕ) (x : What) → In m w.state.network.sent → m.body ≡ bodies.Store n lng x → Says hs w.made m.log (ballot_of m.from) n x
  store_says m n lng x i h = (body_says m.log m.from n lng x (subst (BodySaidIn c hs w m.log m.from) h (R.said.sent m i).0)).says

  same_summaries : (n l k : ℕ) (y z : Summary) → 0 < k → find k (epochs_of w.state.register l).summaries ≡ Some y → find k (log_of (node_at w.state n).plain l).summaries ≡ Some z → z ≡ y
  same_summaries n l k y z p f g = elim (((R.said.nodes n).plain l).summaries (k, z) (find_in k (log_of (node_at w.state n).plain l).summaries z g)).1 [
    | inl a ↦ absurd (let q = a.0 in omega arith)
    | inr a ↦ Some_inj (sym a.found_so ∙ f)
  ]

  settled_known : (n : ℕ) (k : Register) → draw w.state.register n ≡ record { register = k; answer = Granted } → KnownSettled w.made w.state.network.sent k
  settled_known n k q = record { reached = λ l y s b i. reached_settled l y s b i } where
    logs : k.logs ≡ w.state.register.logs
    logs = ap (λ (x : Changed). x.register.logs) (sym q) ∙ elim (draw_leaves w.state.register n) [ inl a ↦ a.0 | inr a ↦ a.0 ]

    as_drawn : (l x : ℕ) → Reached w.state.register l x → Reached k l x
    as_drawn l x h = (h.0, let z : (epochs_of k l).epoch ≡ (epochs_of w.state.register l).epoch = ap (λ m. (unwrap_or (find l m) no_epochs).epoch) logs in let y = h.1 in omega arith)

    reached_settled : (l y s b : ℕ) → StoredBy w.state.network.sent l y s b ⊎ TrimmedBy w.state.network.sent l y s b → Reached k l (epoch_of s)
    reached_settled l y s b (inl i) = as_drawn l (epoch_of s) (R.said.sent _ i).0
    reached_settled l y s b (inr t) = as_drawn l (epoch_of s) (subst (Reached w.state.register l) t.epoch (R.said.sent _ t.told_so).0.1)

  copies_now : (y : ℕ) → NodeCopies w.made w.state.network.sent y (node_at (Calm.moves c w.state e).state y)
  copies_now = dispatch c w.state e (λ d m. (y : ℕ) → NodeCopies w.made w.state.network.sent y (node_at d.state y)) B.0.0
      (node_cases c w.state e (NodeCopies w.made w.state.network.sent) (copies_keep c w.state e hs w.made R.copies (λ y l. (R.holds y).0.fine l) (λ y l. (load_node w.made w.state.network.sent y (node_at w.state y) (R.holds y)).0.fine l) keyed_now (λ y l. (R.cleans y).plain l) store_says same_summaries settled_known))

  pub clean_shown : (n l : ℕ) → (from : ℕ) (y : Summary) (k : ℕ) (x : Entry) → (log_of (node_at w.state n).plain l).trim < from → summary_at (log_of (node_at w.state n).plain l) (home_epoch from) ≡ Some y → home_esn from < y.end → is_lost (log_of (node_at w.state n).plain l) (home_epoch from) ≡ false
      → In (k, x) (log_of (node_at w.state n).plain l).entries → from ≤ x.number → x.number ≤ numbered (home_epoch from) (y.end - 1) → is_bridge x.what ≡ false → ClosedEntry c hs w.made w.state.network.sent w.state.register l x
  clean_shown n l from y k x a b d f i lo hi o = clean_entry c hs w.made w.state.network.sent w.state.register once_before R.once R.plans R.last l (log_of (node_at w.state n).plain l) ((R.said.nodes n).plain l) ((R.cleans n).plain l) (closed_last c hs w R) (λ j z v i key k pos tr lo le sd hole b f q m. no_record_beside c hs w R once_before n l z v (subst (λ u. find u (log_of (node_at w.state n).plain l).entries ≡ Some z) (sym key) (found_rising (j, z) (log_of (node_at w.state n).plain l).entries ((R.holds n).0.fine l).rising i)) k pos tr lo le sd hole b f q m) from y k x b i lo hi o

  -- ---- closings ----
  -- what a close stands on
  abbrev ClosesWith : Sequencer → Recovery → Bool → Summary → Type 0
  ClosesWith q v short y = Summarized c hs w.made w.state.network.sent w.state.register q.log v.epoch y × (short ≡ false → FullAt c hs w.state.network.sent w.made w.state.register q.log v.epoch y.ballot)

  closing_now : (name : List ℕ) (q : Sequencer) (v : Recovery) (y : Summary) (short : Bool) → Live w.state name q → q.recovery ≡ Some v → Ending q (HeardOf w.state q) v y short → lce_of w.state.register q.log + 1 ≡ v.epoch → Summarized c hs w.made w.state.network.sent w.state.register q.log v.epoch y × (short ≡ false → FullAt c hs w.state.network.sent w.made w.state.register q.log v.epoch y.ballot)
  closing_now name q v y short live f h lce = by_end h where
    in_recovery : InRecovery c hs w.state.network.sent w.made w.state.register q.log q.epoch v
    in_recovery = subst (RecoveryFine c hs w.state.network.sent w.made w.state.register q.log q.epoch) f (R.recoveries name q live.named)

    stage_is : (g : Stage) → v.stage ≡ g → StageFine c hs w.state.network.sent w.made w.state.register v.spec q.log q.epoch v.epoch g
    stage_is g k = subst (StageFine c hs w.state.network.sent w.made w.state.register v.spec q.log q.epoch v.epoch) k in_recovery.stage

    heard_reply : (y : ℕ) (b : Body) → HeardOf w.state q y b → ReplyFine c hs w.state.network.sent w.state.register q.log q.epoch y b
    heard_reply y b h = subst (λ z. ReplyFine c hs w.state.network.sent w.state.register q.log q.epoch z b) h.from (subst (ReplyFine c hs w.state.network.sent w.state.register q.log q.epoch (Step.sender_node h.message.from)) h.body
        (reply c w.state e hs w.made R.said B.0.1.epochs R.shows R.bounded R.below R.recoveries R.stored_from R.each settlers name q live h.message h.sent h.to h.log w.state.register (up_same w.state.register) (stays_same c w.state.register)))

    heard_lost : (y n round generation end : ℕ) → HeardOf w.state q y (bodies.LostHere n round generation end) → LostTold w.state.network.sent q.log (home_epoch n) q.epoch y
    heard_lost y n round generation end h = subst (LostTold w.state.network.sent q.log (home_epoch n) q.epoch) h.from (lost_said c w.state e hs w.made R.said B.0.1.epochs R.shows R.bounded R.below R.recoveries R.stored_from R.each settlers name q live h.message h.sent h.to h.log n round generation end h.body)

    -- a plan that is ready
    ready : (g : Storing) (lost : List ℕ) → ((x : ℕ) → is_in x lost ≡ true → LostTold w.state.network.sent q.log v.epoch q.epoch x) → StoringFine c hs w.state.network.sent w.made w.state.register q.log q.epoch v.epoch g → (is_fully_ready v.spec g || is_ready_short v.spec lost g) ≡ true
        → short ≡ not (is_fully_ready v.spec g) → ClosesWith q v short (summary_of q.epoch g)
    ready g lost said S t o = (stands, λ z. (S.basis, S.planned_so, full_close c hs w.state.network.sent w.made w.state.register q.log q.epoch v.epoch g in_recovery.reached S (subst (λ p. is_fully_ready p g ≡ true) (in_recovery.spec.fixed (omega arith)) (not-false _ (sym o ∙ z))) (omega arith))) where
      stands : Summarized c hs w.made w.state.network.sent w.state.register q.log v.epoch (summary_of q.epoch g)
      stands = elim (or_cases (is_fully_ready v.spec g) (is_ready_short v.spec lost g) t) [
        | inl k ↦ full_stands c hs w.state.network.sent w.made w.state.register q.log q.epoch v.epoch g in_recovery.reached S (subst (λ p. is_fully_ready p g ≡ true) (in_recovery.spec.fixed (omega arith)) k) (omega arith)
        | inr k ↦ short_stands c hs w.state.network.sent w.made w.state.register q.log q.epoch v.epoch g in_recovery.reached S lost said (subst (λ p. is_ready_short p lost g ≡ true) (in_recovery.spec.fixed (omega arith)) k)
      ]

    as_lost : (z n round generation end : ℕ) → HeardOf w.state q z (bodies.LostHere n round generation end) → home_epoch n ≡ v.epoch → (x : ℕ) → is_in x (with_one z v.lost) ≡ true → LostTold w.state.network.sent q.log v.epoch q.epoch x
    as_lost z n round generation end h k x i = elim (with_one_in z x v.lost i) [
      | inl j ↦ in_recovery.lost x j
      | inr j ↦ subst (LostTold w.state.network.sent q.log v.epoch q.epoch) (sym j) (subst (λ m. LostTold w.state.network.sent q.log m q.epoch z) k (heard_lost z n round generation end h))
    ]

    by_end : Ending q (HeardOf w.state q) v y short → ClosesWith q v short y
    by_end (ends_again k) = stage_is (Closes y short) k (omega arith)
    by_end (ends_settled g p z b k j m u t i o) = subst (ClosesWith q v short) (sym i) (ready (settled_by p z g) v.lost in_recovery.lost
        (settles_fine c hs w.state.network.sent w.state.register q.log q.epoch v.epoch z b (heard_reply z b k) w.made p g m (stage_is (Stores g) j)) t o)
    by_end (ends_lost g z n round generation end k j m t i o) = subst (ClosesWith q v short) (sym i) (ready g (with_one z v.lost) (as_lost z n round generation end k m) (stage_is (Stores g) j) t o)
    by_end (ends_ready g j t i o) = subst (ClosesWith q v short) (sym i) (ready g v.lost in_recovery.lost (stage_is (Stores g) j) t o)

  -- ---- where items and appends go ----
  known_now : (t : List ℕ) (q : Sequencer) → find_named t w.state.sequencers ≡ Some q → inset.Known c w.joined w.made w.state w.state.register q
  known_now t q f = let a = R.acks t q f in record {
    own = a.reached;
    spec = a.spec;
    small = (counts_of c hs w B t q f).small;
    appends = λ p i. (a.appends p i).epoch;
    reached = λ v h. (recovers v h).reached;
    specs = λ v h. (R.recovers t q f v h).1;
    looked = λ x y o i. now_members c w.joined w.state.register q.log x y R.follow R.each o i;
    digests = λ v d h k x i. (let D = sealed v d h k in (in_nodes x d (nodes_of v.spec) D.nodes i, (D.told x i).asks));
    anew = λ v d h k x i. (let D = asks_anew hs w.made w.state.network.sent v.spec q.log v.epoch q.epoch d (most v d (sealed v d h k)) (sealed v d h k) in (in_nodes x (with_asks v.epoch d) (nodes_of v.spec) D.nodes i, (D.told x i).asks));
    heard = λ m i o g th v d H x j. (let D = (heard_digest c w.state e hs w.made R.said B.0.1.epochs R.shows R.bounded R.below R.recoveries R.stored_from R.each settlers t q (record { named = f; there = th }) m i o g v d H).stage in (in_nodes x d (nodes_of v.spec) D.nodes j, (D.told x j).asks));
    items = λ v g h k i j. ((stored v g h k).items i j).epoch;
    good = λ v g h k. (let z = stored v g h k in (z.basis, z.planned_so, z.lng));
  } where
    recovers : (v : Recovery) → q.recovery ≡ Some v → InRecovery c hs w.state.network.sent w.made w.state.register q.log q.epoch v
    recovers v h = subst (RecoveryFine c hs w.state.network.sent w.made w.state.register q.log q.epoch) h (R.recoveries t q f)

    stored : (v : Recovery) (g : Storing) → q.recovery ≡ Some v → v.stage ≡ Stores g → StoringFine c hs w.state.network.sent w.made w.state.register q.log q.epoch v.epoch g
    stored v g h k = subst (StageFine c hs w.state.network.sent w.made w.state.register v.spec q.log q.epoch v.epoch) k (recovers v h).stage

    sealed : (v : Recovery) (d : List Told) → q.recovery ≡ Some v → v.stage ≡ Seals d → DigestSoFar hs w.made w.state.network.sent v.spec q.log v.epoch q.epoch d
    sealed v d h k = subst (StageFine c hs w.state.network.sent w.made w.state.register v.spec q.log q.epoch v.epoch) k (recovers v h).stage

    most : (v : Recovery) (d : List Told) → DigestSoFar hs w.made w.state.network.sent v.spec q.log v.epoch q.epoch d → digest_lng d ≤ last_esn - 1
    most v d D = let z = good_low c hs w.state.network.sent w.state.register q.log v.epoch _ (digest_good c hs w.state.network.sent w.made w.state.register (pages_good c hs w.made w.state R.said) v.spec q.log v.epoch q.epoch d D) in omega arith

  -- ---- how epochs were closed ----
  pub low_now : (t : List ℕ) (q : Sequencer) → find_named t w.state.sequencers ≡ Some q → q.lce ≤ lce_of w.state.register q.log
  low_now t q f = (R.acks t q f).closed

  pub went_now : Went c w.state e low_now R.next (Calm.moves c w.state e) (made_on c w.state (event_of e))
  went_now = dispatch c w.state e (Went c w.state e low_now R.next) B.0.0 (went_cases c w.state e low_now R.next)

  -- where a summary comes from
  abbrev Came : ℕ → ℕ → Summary → Type 0
  Came l k y = (find k (epochs_of w.state.register l).summaries ≡ Some y) ⊎ ((name : List ℕ) × (q : Sequencer) × (v : Recovery) × (short : Bool) × Live w.state name q × (q.recovery ≡ Some v) × Ending q (HeardOf w.state q) v y short × (lce_of w.state.register q.log + 1 ≡ v.epoch) × (is_overtaken (epochs_of w.state.register q.log) y short ≡ false) × (l ≡ q.log) × (k ≡ v.epoch))

  came : OfSummaries Came reg
  came = summaries_after c w.state e Came (λ l k y f. inl f) (λ name q v y short live r t h o. inr (name, q, v, short, live, r, t, h, o, refl, refl)) B.0.0

  full_next : (l k b : ℕ) → FullAt c hs w.state.network.sent w.made w.state.register l k b → FullAt c next after_sent all_made reg l k b
  full_next l k b f = (f.0, In_right _ (made_on c w.state (event_of e)) w.made f.1, full_later c hs next w.state.network.sent after_sent into_after w.state.register reg follow.0 stays acks_both l k b f.0 (R.plans l k b f.0 f.1).reached f.2)

  last_next : (l k b : ℕ) → k ≤ lce_of reg l → LastPlan w l k b → LastPlan (after_step c w e) l k b
  unfolding finish
  last_next l k b low h = record {
    above = λ a d i. elim (In-append _ (made_on c w.state (event_of e)) w.made i) [
      | inl j ↦ elim (cases_lt b a) [
        | inl lt ↦ absurd (let z = went_now.plans l k a d j in let x = h.knows z.0 z.1 z.2 (sym z.3) (let y = z.4 in omega arith) in let v = z.5 in omega arith)
        | inr ge ↦ ge
      ]
      | inr j ↦ h.above a d j
    ];
    knows = λ t p f lg lt. (let z = went_now.sequencers t p f in elim z.whence [
      | inl v ↦ (let a = v.3 in let x = h.knows t v.0 v.1 (sym v.2 ∙ lg) (omega arith) in let y = v.4 in omega arith)
      | inr v ↦ subst (λ m. lce_of reg m ≤ p.lce → k ≤ p.lce) (sym lg) (λ u. omega arith) v
    ]);
  }

  how_next : (l k : ℕ) (y : Summary) → find k (epochs_of reg l).summaries ≡ Some y → ClosedHow c next (after_step c w e) l k y
  unfolding finish
  how_next l k y f = elim (came l k y f) [
    | inl a ↦ elim (R.closed_how l k y a) [ inl z ↦ inl (full_next l k y.ballot z) | inr z ↦ inr (last_next l k y.ballot (follow.1 l k y f) z) ]
    | inr (name, q, v, short, live, r, t, h, o, il, ik) ↦ elim (cases_Bool short) [
      | inr z ↦ inl (full_next l k y.ballot (subst (λ m. FullAt c hs w.state.network.sent w.made w.state.register m k y.ballot) (sym il) (subst (λ m. FullAt c hs w.state.network.sent w.made w.state.register q.log m y.ballot) (sym ik) ((closing_now name q v y short live r t h).1 z))))
      | inl z ↦ inr (newest_last l k y f (subst (λ m. (epochs_of w.state.register m).epoch ≡ y.ballot) (sym il) (newest q.log y short z o)))
    ]
  ] where
    newest : (m : ℕ) (y : Summary) (short : Bool) → short ≡ true → is_overtaken (epochs_of w.state.register m) y short ≡ false → (epochs_of w.state.register m).epoch ≡ y.ballot
    newest m y short z o = elim (cases_Bool ((epochs_of w.state.register m).epoch == y.ballot)) [
      | inl t ↦ eqb-true _ _ t
      | inr t ↦ absurd (let u : (short && not ((epochs_of w.state.register m).epoch == y.ballot)) ≡ true = and_from _ _ z (ap not t) in not_both _ u o)
    ]

    newest_last : (l k : ℕ) (y : Summary) → find k (epochs_of reg l).summaries ≡ Some y → (epochs_of w.state.register l).epoch ≡ y.ballot → LastPlan (after_step c w e) l k y.ballot
    newest_last l k y f n = record {
      above = λ a d i. elim (In-append _ (made_on c w.state (event_of e)) w.made i) [ inl j ↦ (let z = (new_plan l k a d j).1 in omega arith) | inr j ↦ (let z = R.below l k a d j in omega arith) ];
      knows = λ t p g lg lt. (let z = went_now.sequencers t p g in elim z.whence [
        | inl v ↦ absurd (let a = v.3 in let x = B.0.1.epochs.drawn t v.0 v.1 in let q = ap (λ m. (epochs_of w.state.register m).epoch) (sym v.2 ∙ lg) in omega arith)
        | inr v ↦ subst (λ m. lce_of reg m ≤ p.lce → k ≤ p.lce) (sym lg) (λ u. let x = follow.1 l k y f in omega arith) v
      ]);
    }

  -- ---- loss plans ----
  pub fresh_losses : FreshLosses (made_on c w.state (event_of e)) w.state.register
  fresh_losses l x b f i lo = elim (new_plan l x b f i).0.why [ inl h ↦ absurd (not_both f.loss lo h.0) | inr h ↦ h.1.open_still ]

  cut_said : (y : ℕ) (k : Cut) → (node_at w.state y).cut ≡ Some k → PlainSaid c hs w k.plain
  cut_said y k q = has.cut_plain _ _ _ _ _ _ y (node_at w.state y) k (R.said.nodes y) q

  -- while an epoch is open it is clean in no state
  unclean : (y l x : ℕ) → Reached w.state.register l x → Open w.state.register l x → (p : Plain) → MayHold (node_at w.state y) p → is_some (summary_at (log_of p l) x) ≡ true → ⊥
  unfolding summary_at
  unclean y l x o u p m s = by_find (find x (log_of p l).summaries) refl where
    plain_said : PlainSaid c hs w p
    plain_said = elim m [
      | inl q ↦ subst (PlainSaid c hs w) (sym q) (R.said.nodes y).plain
      | inr q ↦ subst (PlainSaid c hs w) (sym q.2) (cut_said y q.0 q.1)
    ]

    at_find : (o : Option Summary) → find x (log_of p l).summaries ≡ o → is_some (if x == 0 then Some epoch_zero else o) ≡ true → ⊥
    at_find None q h = cond_both (x == 0) (Some epoch_zero) None (λ (k : Option Summary). is_some k ≡ true → ⊥) (λ t g. (let z = o.0 in let v = eqb-true x 0 t in omega arith)) (λ t g. cc) h
    at_find (Some z) q h = let k = (plain_said l).summaries (x, z) (find_in x (log_of p l).summaries z q) in let a = close_low c hs w.made w.state.network.sent w.state.register l x z k in omega arith

    by_find : (o : Option Summary) → find x (log_of p l).summaries ≡ o → ⊥
    by_find o q = at_find o q (subst (λ k. is_some (if x == 0 then Some epoch_zero else k) ≡ true) q s)

  abbrev test : Test
  test l x y = is_gone l x (node_at w.state y).plain && is_cut_gone l x (node_at w.state y).cut

  lost_passes : (l x b y : ℕ) → Reached w.state.register l x → LostTold w.state.network.sent l x b y → Open w.state.register l x → test l x y ≡ true
  lost_passes l x b y o h u = unserved_gone (node_at w.state y) l x (subst (AllUnserved (node_at w.state y) l) h.home (R.lost_said l y b h.number h.round h.generation h.end h.said (let z = o.0 in let k = h.home in omega arith)).1) (unclean y l x o u)

  pub plan_now : (l x b : ℕ) (f : Basis) → In (plan_of l x b f) (made_on c w.state (event_of e)) → PlanMade c hs w.state.network.sent w.made w.state.register l x b f
  plan_now l x b f i = let n = (new_plan l x b f i).0 in just_made c hs w.state.network.sent w.made w.state.register test l x b f (λ y h u. lost_passes l x b y n.reached h u) R.pages_of n

  -- what looks show
  activated_look : (l : ℕ) (k : Register) → activate w.state.register l (Step.spec_set c w.state l) ≡ record { register = k; answer = Granted } → (x : ℕ) → 0 < x → x < (epochs_of k l).epoch → LookIn c w.state.register w.joined l x (looks_at c k l x).spec
  activated_look l k i x pos lt = activated_in c w.joined w.state.register k l x (Step.spec_set c w.state l) R.follow R.each i pos lt

  activated_ask : (l : ℕ) (k : Register) → activate w.state.register l (Step.spec_set c w.state l) ≡ record { register = k; answer = Granted } → (x y : ℕ) → 0 < x → x < (epochs_of k l).epoch → In y (nodes_of (looks_at c k l x).spec) → inset.AskGoes c w.state.register w.joined l y (numbered x 1)
  activated_ask l k i x y pos lt j = let z = activated_look l k i x pos lt in let q : epoch_of (numbered x 1) ≡ x = omega arith in (subst (Reached w.state.register l) (sym q) z.0, subst (λ v. inset.InEpoch c w.state.register w.joined l v y) (sym q) (z.1 y j))

  own_look : (t : List ℕ) (q : Sequencer) → find_named t w.state.sequencers ≡ Some q → (x : ℕ) → 0 < x → x < q.epoch → LookIn c w.state.register w.joined q.log x (looks_at c w.state.register q.log x).spec
  own_look t q f x pos lt = let o : Reached w.state.register q.log x = (pos, let z = (R.acks t q f).reached.1 in omega arith) in (o, λ y i. now_members c w.joined w.state.register q.log x y R.follow R.each o i)

  looks_now : AllLook (LookIn c w.state.register w.joined) c w.state e R.recovers own_look activated_look (Calm.moves c w.state e) (made_on c w.state (event_of e))
  looks_now = dispatch c w.state e (AllLook (LookIn c w.state.register w.joined) c w.state e R.recovers own_look activated_look) B.0.0 (look_cases (LookIn c w.state.register w.joined) c w.state e R.recovers own_look activated_look)

  abbrev new_joined : List Joined
  new_joined = joined_on w.state (finish (Calm.moves c w.state e)).state (event_of e)

  epoch_next : (l x y : ℕ) → Reached w.state.register l x → inset.InEpoch c w.state.register w.joined l x y → inset.InEpoch c reg (new_joined ++ w.joined) l x y
  epoch_next l x y o (inl i) = inl (subst (λ (p : Spec). In y (nodes_of p)) (sym (stays.specs l x o)) i)
  epoch_next l x y o (inr j) = inr (joins_more new_joined w.joined l x y j)

  posts_now : inset.InSent c w.state.register w.joined all_made (Calm.moves c w.state e).sends
  posts_now = dispatch c w.state e (inset.Posts c w.joined w.made w.state e known_now activated_ask) B.0.0 (inset.posts_cases c w.joined w.made w.state e known_now activated_ask) (λ l x b f i. ends_in c hs w.state.network.sent w.made w.state.register l x b f (plan_now l x b f i))

  in_next : inset.InSent c reg (new_joined ++ w.joined) all_made after_sent
  in_next m i b y f t = elim (sent_by (Calm.moves c w.state e) m i) [
    | inl a ↦ grown w.made m.body (λ l n g z. elim z [ inl v ↦ inl v | inr v ↦ inr (v.0, In_right _ (made_on c w.state (event_of e)) w.made v.1, v.2) ]) (R.in_sent m (subst (λ (z : List Msg). In m z) same_sent a) b y f t)
    | inr a ↦ grown all_made m.body (λ l n g z. z) (posts_now m a b y f t)
  ] where
    reached_next : (l x : ℕ) → Reached w.state.register l x → Reached reg l x
    reached_next l x h = (h.0, let u = (follow.0 l).0 in let v = h.1 in omega arith)

    grown : (ms : List Made) (k : Body) → ((l n g : ℕ) → inset.StoreLng ms l b n g → inset.StoreLng all_made l b n g) → inset.MayGo (inset.Goes c w.state.register w.joined ms m.log b) (inset.AskGoes c w.state.register w.joined m.log) y k → inset.MayGo (inset.Goes c reg (new_joined ++ w.joined) all_made m.log b) (inset.AskGoes c reg (new_joined ++ w.joined) m.log) y k
    grown ms (bodies.Store n lng x) more h = (reached_next m.log (epoch_of n) h.0, epoch_next m.log (epoch_of n) y h.0 h.1, more m.log n lng h.2)
    grown ms (bodies.DigestAsk n) more h = (reached_next m.log (epoch_of n) h.0, epoch_next m.log (epoch_of n) y h.0 h.1)
    grown ms _ more h = tt

  -- ---- what entries say of their nodes ----
  sent_from : (m : Msg) → In m w.state.network.sent → (y n lng : ℕ) (x : What) → m.to ≡ whos.Node y → m.body ≡ bodies.Store n lng x → 0 < (node_at w.state y).plain.generation → Served (log_of (node_at w.state y).plain m.log) (epoch_of n) → OfSet c w.made w.state.register w.state.network.sent y m.log n × inset.StoreLng w.made m.log (ballot_of m.from) n lng
  sent_from m i y n lng x t h gen sv = by_who m.from refl where
    said : (who : Who) → m.from ≡ who → Said hs w.made w.state.register m.log (ballot_of who) n x
    said who q = body_says m.log who n lng x (subst (λ z. BodySaidIn c hs w m.log z (bodies.Store n lng x)) q (subst (BodySaidIn c hs w m.log m.from) h (R.said.sent m i).0))

    no_ballot : Said hs w.made w.state.register m.log 0 n x → ⊥
    no_ballot s = elim s.says [ inl o ↦ (let a = o.own in let b = s.reached.0 in omega arith) | inr o ↦ (let a = o.later in omega arith) ]

    by_who : (who : Who) → m.from ≡ who → OfSet c w.made w.state.register w.state.network.sent y m.log n × inset.StoreLng w.made m.log (ballot_of m.from) n lng
    by_who (whos.Sequencer b) q = let z : inset.Goes c w.state.register w.joined w.made m.log b y n lng = subst (inset.MayGo (inset.Goes c w.state.register w.joined w.made m.log b) (inset.AskGoes c w.state.register w.joined m.log) y) h (R.in_sent m i b y q t) in ((z.0, elim z.1 [ inl j ↦ j | inr j ↦ absurd (served_not (node_at w.state y).plain m.log (epoch_of n) gen sv ((R.joined m.log (epoch_of n) y j).unserved (node_at w.state y).plain (inl refl))) ]), subst (λ (k : Who). inset.StoreLng w.made m.log (ballot_of k) n lng) (sym q) z.2)
    by_who (whos.Node b) q = absurd (no_ballot (said (whos.Node b) q))
    by_who (whos.Reader b) q = absurd (no_ballot (said (whos.Reader b) q))

  page_holes : (m : Msg) → In m w.state.network.sent → (n round from upto : ℕ) (es : List Entry) → m.to ≡ whos.Node n → m.body ≡ bodies.ReadPage round from upto true es → (x : Entry) → In x es → HoleClosed c w.made w.state.register w.state.network.sent m.log x
  page_holes m i n round from upto es t h x j = let z = (subst (BodySaidIn c hs w m.log m.from) h (R.said.sent m i).0).0.1 x (told_entry x es j (message_whole m n round from upto es t h (R.said.sent m i).1 x j)) in (z.hole, z.closed.low, z.content)

  marks_now : (y : ℕ) → MarkedNode c w.made w.state y (node_at (Calm.moves c w.state e).state y)
  marks_now = dispatch c w.state e (λ d m. (y : ℕ) → MarkedNode c w.made w.state y (node_at d.state y)) B.0.0
      (node_cases c w.state e (MarkedNode c w.made w.state) (marks_keep c w.made w.state e R.marks R.full R.ups (λ y. (R.holds y).0.seals) sent_from page_holes))

  marks_next : (y : ℕ) (p : Plain) → MayHold (node_at (Calm.moves c w.state e).state y) p → Marked c all_made reg after_sent y p
  marks_next y p i = let M = marks_now y p i in record {
    of_set = λ l k x q lt. (let h = M.of_set l k x q lt in ((h.0.0, let u = (follow.0 l).0 in let v = h.0.1 in omega arith), subst (λ (p : Spec). In y (nodes_of p)) (sym (stays.specs l (epoch_of k) h.0)) h.1));
    shown = λ l b from upto t lng es j. elim (sent_by (Calm.moves c w.state e) _ j) [
      | inl a ↦ M.shown l b from upto t lng es (subst (λ (z : List Msg). In (from_node l y b (bodies.DigestPage from upto t lng es)) z) same_sent a)
      | inr a ↦ (let z = sends_now.pages l y b from upto t lng es a in λ k f q ep lo hi lt un. z.1.has k f (subst (λ v. find k (log_of v l).entries ≡ Some f) (one_state z.0.whole i) q) ep lo hi)
    ];
    refilled = λ l k x q pos le. (let h = M.refilled l k x q pos le in (hole_grows c hs e (Calm.moves c w.state e) w.made (made_on c w.state (event_of e)) w.state.network.sent after_sent w.state.register reg into_after follow.0 stays l x.number x.what fresh_losses h.1 h.0, (let u = (follow.0 l).1 in let v = h.1 in omega arith), h.2));
    blank = M.blank;
    low = λ l b from upto t lng es j lt. elim (sent_by (Calm.moves c w.state e) _ j) [
      | inl a ↦ low_later p l (epoch_of from) b lng (M.low l b from upto t lng es (subst (λ (z : List Msg). In (from_node l y b (bodies.DigestPage from upto t lng es)) z) same_sent a) lt)
      | inr a ↦ (let z = sends_now.pages l y b from upto t lng es a in inr (inl (let k = z.1.known in let v = ap (λ (u : Plain). lng_at (log_of u l) (epoch_of from)) (one_state z.0.whole i) in omega arith)))
    ];
  } where
    low_later : (p : Plain) (l x b lng : ℕ) → LowAt w.made p l x b lng → LowAt all_made p l x b lng
    low_later p l x b lng (inl h) = inl h
    low_later p l x b lng (inr (inl h)) = inr (inl h)
    low_later p l x b lng (inr (inr h)) = inr (inr (h.0, h.1, In_right _ (made_on c w.state (event_of e)) w.made h.2, h.3, h.4))

    one_state : (node_at (Calm.moves c w.state e).state y).cut ≡ None → MayHold (node_at (Calm.moves c w.state e).state y) p → p ≡ (node_at (Calm.moves c w.state e).state y).plain
    one_state n (inl q) = q
    one_state n (inr k) = absurd (let z : None ≡ Some k.0 = sym n ∙ k.1 in not_none z)

  -- ---- last known good places of loss plans ----

  -- what a page of this step says, of a node that is whole in an older loss plan's digest
  page_low : (l x b g from upto trim lng : ℕ) (es : List Entry) (f : Basis) (t : Told) → In (plan_of l x b f) w.made → f.loss ≡ true → In t f.digest → t.whole ≡ true → In (from_node l t.node g (bodies.DigestPage from upto trim lng es)) (Calm.moves c w.state e).sends → epoch_of from ≡ x → lng ≤ digest_lng f.digest
  page_low l x b g from upto trim lng es f t i lo j wh k q = by_low ((marks_now t.node plain (inl refl)).low l b v.from v.upto v.trim v.lng v.entries v.page (let z = P.later in let y = v.epoch in omega arith)) where
    plain : Plain
    plain = (node_at (Calm.moves c w.state e).state t.node).plain

    P : PlanMade c hs w.state.network.sent w.made w.state.register l x b f
    P = R.plans l x b f i

    v : Covered w.state.network.sent l x b t (numbered x last_esn)
    v = (P.digest.told t j).covers (numbered x last_esn) (omega arith) (let z = P.good_most in omega arith) (inr wh)

    page : Allowed (node_at (Calm.moves c w.state e).state t.node) × PageIn plain l g from upto trim lng es
    page = sends_now.pages l t.node g from upto trim lng es k

    own : v.lng ≤ digest_lng f.digest
    own = let z = lng_least f.digest t j in let y = v.knows in omega arith

    known : lng ≡ lng_at (log_of plain l) (epoch_of v.from)
    known = page.1.known ∙ ap (lng_at (log_of plain l)) (q ∙ sym v.epoch)

    by_low : LowAt w.made plain l (epoch_of v.from) b v.lng → lng ≤ digest_lng f.digest
    by_low (inl h) = absurd (served_not plain l (epoch_of v.from) page.0.formatted (subst (Served (log_of plain l)) (q ∙ sym v.epoch) page.1.served) h)
    by_low (inr (inl h)) = let z = known in let y = own in omega arith
    by_low (inr (inr h)) = let z = known in let u = h.4 in elim (cases_order b h.0) [
      | inl m ↦ (let same : h.1 ≡ f = R.once l x b h.1 f (subst (λ k. In (plan_of l x k h.1) w.made) (sym m) (subst (λ k. In (plan_of l k h.0 h.1) w.made) v.epoch h.2)) i in let y = ap (λ (k : Basis). digest_lng k.digest) same in omega arith)
      | inr (inl m) ↦ (let y = plans_low c hs w R l x b h.0 f h.1 i (subst (λ k. In (plan_of l k h.0 h.1) w.made) v.epoch h.2) lo m in omega arith)
      | inr (inr m) ↦ absurd (let y = h.3 in omega arith)
    ]

  lows_next : PagesLow all_made after_sent
  lows_next l x b f i lo t j wh g from upto trim lng es k q lt = elim (In-append _ (made_on c w.state (event_of e)) w.made i) [
    | inl a ↦ absurd (elim (new_plan l x b f a).0.why [
      | inl h ↦ not_both f.loss lo h.0
      | inr h ↦ (let z = h.1.newest in let y = handed in omega arith)
    ])
    | inr a ↦ elim (sent_by (Calm.moves c w.state e) _ k) [
      | inl o ↦ R.lows l x b f a lo t j wh g from upto trim lng es (subst (λ (z : List Msg). In (from_node l t.node g (bodies.DigestPage from upto trim lng es)) z) same_sent o) q lt
      | inr o ↦ page_low l x b g from upto trim lng es f t a lo j wh o q
    ]
  ] where
    handed : g ≤ (epochs_of w.state.register l).epoch
    handed = elim (sent_by (Calm.moves c w.state e) _ k) [
      | inl o ↦ R.drawn _ (subst (λ (z : List Msg). In (from_node l t.node g (bodies.DigestPage from upto trim lng es)) z) same_sent o) g (inr refl)
      | inr o ↦ answer_before c w.state e B.0.0 R.drawn l t.node g _ o
    ]

  full_now : (y : ℕ) → FullNode (node_at (Calm.moves c w.state e).state y)
  full_now = dispatch c w.state e (λ d m. (y : ℕ) → FullNode (node_at d.state y)) B.0.0 (node_cases c w.state e (λ y x. FullNode x) (full_keeps c w.state e R.full))

  -- who stores a number has it, of an epoch that it serves
  stored_next : inset.StoredOf c reg after_sent
  stored_next l y n b i = elim (sent_by (Calm.moves c w.state e) _ i) [
    | inl a ↦ (let h = R.stored_of l y n b (subst (λ (z : List Msg). In (from_node l y b (bodies.Stored n)) z) same_sent a) in
        ((h.0.0, let u = (follow.0 l).0 in let v = h.0.1 in omega arith), subst (λ (p : Spec). In y (nodes_of p)) (sym (stays.specs l (epoch_of n) h.0)) h.1))
    | inr a ↦ (let z = (sends_now.stored l y n b a).1 in
        (marks_next y (node_at (Calm.moves c w.state e).state y).plain (inl refl)).of_set l n z.held.entry z.held.found_at (served_later (log_of (node_at (Calm.moves c w.state e).state y).plain l) (epoch_of n) (full_now y (node_at (Calm.moves c w.state e).state y).plain (inl refl) l) (served_positive (log_of (node_at (Calm.moves c w.state e).state y).plain l) (epoch_of n) z.served) z.served))
  ]

  of_next : (l x y : ℕ) → Reached w.state.register l x × In y (fixed_at c w.state.register l x) → Reached reg l x × In y (fixed_at c reg l x)
  of_next l x y h = ((h.0.0, let u = (follow.0 l).0 in let v = h.0.1 in omega arith), subst (λ (p : Spec). In y (nodes_of p)) (sym (stays.specs l x h.0)) h.1)

  drawn_own : (name : List ℕ) (q : Sequencer) → find_named name w.state.sequencers ≡ Some q → q.epoch ≤ (epochs_of w.state.register q.log).epoch
  drawn_own name q f = B.0.1.epochs.drawn name q f

  within_now : (y : ℕ) → LostWithin w.state.register (node_at (Calm.moves c w.state e).state y)
  within_now = dispatch c w.state e (λ d m. (y : ℕ) → LostWithin w.state.register (node_at d.state y)) B.0.0 (node_cases c w.state e (λ y x. LostWithin w.state.register x) (within_keeps c w.state e R.logs R.within))

  losses_next : (l x b : ℕ) (f : Basis) → In (plan_of l x b f) all_made → f.loss ≡ true → LossKept c (after_step c w e).state l x b f
  unfolding finish
  losses_next l x b f i lo = loss_step c w e B.0.0 R.ups R.within follow.0 stays l x b f (elim (In-append _ (made_on c w.state (event_of e)) w.made i) [
    | inl a ↦ loss_made c hs w.made w.state l x b f R.drawn lo (new_plan l x b f a).0 (plan_now l x b f a)
    | inr a ↦ R.losses l x b f a lo
  ])

  pub along_step : Base c (hs ++ step_happened c w.state e ∷ []) (after_step c w e) → Along c (hs ++ step_happened c w.state e ∷ []) (after_step c w e)
  unfolding finish
  along_step C = record {
    said = said_step c hs w e B G B.1.0 R.said stays into_after released_before (released_after C) good_before clean_shown (λ name q v y short live f h lce. (closing_now name q v y short live f h lce).0) fresh_losses;
    ups = ups_now;
    holds = λ y. node_later w.made (made_on c w.state (event_of e)) after_sent y (node_at (Calm.moves c w.state e).state y) (holds_sent w.made w.state.network.sent (Calm.moves c w.state e) sends_now same_sent holds_now y);
    shows = shows_next;
    bounded = bounded_next;
    below = λ l x b f i. (let u = (follow.0 l).0 in elim (In-append _ (made_on c w.state (event_of e)) w.made i) [ inl a ↦ (let z = (new_plan l x b f a).1 in omega arith) | inr a ↦ let z = R.below l x b f a in omega arith ]);
    once = once_next;
    recoveries = λ t v f. recovery_later hs next all_made [] w.state.network.sent after_sent (into c hs w.made w.state.network.sent w.state.register (Calm.moves c w.state e) sends_now same_sent holds_now)
        (λ l b n x s. says_grows hs w.state.register e (Calm.moves c w.state e) all_made [] l b n x s) c reg reg (up_same reg) (stays_same c reg) (λ l n h. acks_sent l n (acks_next reg l n h)) v.log v.epoch v.recovery (λ x g i. i) ((digests_now follow.0 stays).0 t v f);
    plans = λ l x b f i. elim (In-append _ (made_on c w.state (event_of e)) w.made i) [
      | inl a ↦ plan_next l x b f (plan_now l x b f a)
      | inr a ↦ plan_next l x b f (R.plans l x b f a)
    ];
    stored_from = λ m b i t. elim (sent_by (Calm.moves c w.state e) m i) [
      | inl a ↦ R.stored_from m b (subst (λ (z : List Msg). In m z) same_sent a) t
      | inr a ↦ dispatch c w.state e (λ d m. AnswersFrom d.sends) B.0.0 (sender_cases c w.state e) m b a t
    ];
    acks = acks_next_state;
    cleans = cleans_now;
    copies = λ y. copies_later w.made (made_on c w.state (event_of e)) after_sent y (node_at (Calm.moves c w.state e).state y) (copies_sent w.made w.state.network.sent (Calm.moves c w.state e) sends_now same_sent copies_now y);
    logs = logs_rise c w.state e B.0.0 R.logs;
    each = each_closed c w.state e B.0.0 R.each;
    drawn = drawn_step c w e B.0.0 follow.0 same_sent drawn_own R.drawn;
    within = λ y p m l x h. (let z = within_now y p m l x h in let u = (follow.0 l).0 in omega arith);
    lost_said = lost.said_step c w e R.ups R.within B.0.0 (λ l. (follow.0 l).0) R.lost_said;
    losses = losses_next;
    last = found_below c hs w.made (made_on c w.state (event_of e)) w.state R.losses R.last R.below new_plan plan_now;
    in_sent = in_next;
    stored_of = stored_next;
    trimmed_of = λ l y b n t i. elim (trims_answered c w e B.0.0 R.ups R.joined R.in_sent l y b n t i) [ inl a ↦ of_next l (epoch_of n) y (R.trimmed_of l y b n t a) | inr a ↦ of_next l (epoch_of n) y a ];
    pages_of = λ l y b from upto t lng es i. elim (pages_answered c w e B.0.0 R.ups R.joined R.in_sent l y b from upto t lng es i) [ inl a ↦ of_next l (epoch_of from) y (R.pages_of l y b from upto t lng es a) | inr a ↦ of_next l (epoch_of from) y a ];
    follow = follow_step c w e B.0.0 R.follow;
    joined = joined_step c w e B.0.0 follow.0 R.each R.ups R.full R.joined;
    recovers = λ t q f v h. (let z = looks_now t q f v h in ((z.0.0, let u = (follow.0 q.log).0 in let p = z.0.1 in omega arith), λ y i. epoch_next q.log v.epoch y z.0 (z.1 y i)));
    full = full_now;
    lows = lows_next;
    marks = marks_next;
    next = λ t q f. (went_now.sequencers t q f).next;
    closed_how = how_next;
  }

pub along_kept : (c : Config) → Keeps c (λ hs w. BaseGiven c hs w × Along c hs w)
along_kept c = beside_kept c (BaseGiven c) (Along c) (given_kept c) (start_along c) (λ hs w e B C R. along_step c hs w e B.0 B.1 R C.0)
