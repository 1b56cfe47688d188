-- What messages say and how nodes are sealed was handed out by the register: ballots, seals, generations; and summaries that are told are of epochs from 1 on.
use Rattle.std.proofs.Common.{is_some, ◌≡◌, ◌∙◌, ◌⊎◌, ◌≤◌, ◌<◌, ℕ, inl, inr, refl, ap, sym, subst, Bool, true, false, ◌==◌, ◌+◌, nat_lt, cond, if◌then◌else◌, List, [], ◌∷◌, ◌++◌, Option, Some, None, arith}
use Rattle.std.specs.Option.{unwrap_or}
use Rattle.ld_ids.specs.Choice.{nodes_of}
use Rattle.ld_table.specs.Table.{find}
use Rattle.ld_table.specs.Words.{without}
use Rattle.ld_table.specs.Named.{find_named}
use Rattle.ld_table.proofs.Laws.{put_cases}
use Rattle.std.specs.Ordering.{nat_cmp}
use Rattle.std.specs.BTreeMap.{is_at}
use Rattle.ld_lsn.specs.Number.{epoch_of}
use Rattle.ld_ids.specs.declared.set.Spec.{Spec}
use Rattle.ld_ids.specs.Set.{members}
use Rattle.ld_config.specs.declared.config.Config.{Config}
use Rattle.ld_msg.specs.declared.msg.What.TheVariants.{Rec}
use Rattle.ld_msg.specs.declared.msg.Entry.{Entry}
use Rattle.ld_msg.specs.declared.msg.Summary.{Summary}
use Rattle.ld_msg.specs.declared.msg.Who.{Who}
use Rattle.ld_msg.specs.declared.msg.Who.TheVariants as whos
use Rattle.ld_msg.specs.declared.msg.Msg.{Msg}
use Rattle.ld_msg.specs.declared.msg.Body.{Body}
use Rattle.ld_msg.specs.declared.msg.Body.TheVariants as bodies
use Rattle.ld_msg.specs.Choice.{choice}
use Rattle.ld_msg.specs.Digest.{Told, no_digest, with_asks, plan}
use Rattle.ld_msg.specs.Reader.{Reader, on_answer, poll_asks, polled}
use Rattle.ld_msg.specs.Register.{Register, View, Epochs, Granted, epochs_of, generation_of, epochs_in, lce_of, activate}
use Rattle.ld_msg.specs.Sequencer.{Sequencer, Append, Recovery, Planned, Storing, Acts, Called, does_nothing, passes, item_nodes, to_each, digest_asks, next_ask, recovery_asks, item_stores, append_stores, release_messages, acted_messages, released_of, rose, is_acked, Numbered, activated, planned, raised, next_wave}
use Rattle.ld_op.specs.declared.op.Op.{Op}
use Rattle.ld_op.specs.declared.op.Op.TheVariants as ops
use Rattle.ld_op.specs.Plain.{Plain, Log, log_of, empty_log, apply, with_log, lost_log, lost_logs}
use Rattle.ld_op.specs.Answers.{Decision, Lost, CleanAlready, Trimmed, Sealed, Same, Take, store_decision, digest_decision, taken, refusal, store_answer, digest_answer, on_store, on_digest_ask, on_clean, clean_op, on_trim, read_answer, withheld_in}
use Rattle.ld_op.specs.Handles.{handled_by, answer_message, ballot_of}
use Rattle.ld_op.specs.Ticks.{Ticked, Cleans, Rebuilt, Asks, Nothing, node_asks, on_page, page_op, refill_op, lacking}
use Rattle.ld_machine.specs.Config.{all_nodes, looks_at}
use Rattle.ld_machine.specs.Disk.{Node, new_node, keep_op, keep_end, load, Kept, Written, DiskFailed, Crashed, JournalFull}
use Rattle.ld_machine.specs.State.{State, Done, new_nodes, finish, node_at, with_node, with_register, with_reader, posted}
use Rattle.ld_machine.specs.Facts.{Happened}
use Rattle.ld_machine.specs.World.{World, In, Sent, begin, MayHold}
use Rattle.ld_machine.specs.Run.{after_step}
use Rattle.ld_machine.specs.Step as Step
use Rattle.ld_safety.proofs.Lists.{Some_inj, not_none, only, In-append, cond_both}
use Rattle.ld_safety.proofs.Traces.{Keeps, beside_kept}
use Rattle.ld_safety.proofs.Steps.{sent_by}
use Rattle.ld_safety.proofs.Events.{reply_call, retry_call, announced, Cases, dispatch, Reading, refreshed, loaded}
use Rattle.ld_safety.proofs.NodeSteps.{store_decided, ask_decided, read_answered}
use Rattle.ld_safety.proofs.NodeCases.{NodeKeeps, node_cases}
use Rattle.ld_safety.proofs.SequencerSteps.{Acting, Retrying, Closing, acts_with, heard_epoch, stored_epoch, retry_acts, retry_stores, gone_of, replied, retried}
use Rattle.ld_safety.proofs.Registers.{Up, follows}
use Rattle.ld_safety.proofs.RegisterSteps.{activated_epochs}
use Rattle.ld_safety.proofs.LostReads.{read_on, poll_are}
use Rattle.ld_transcript.specs.declared.line.Line.TheVariants as lines
use Rattle.ld_safety.proofs.Generations.{NoneFalls, generations_step}
use Rattle.ld_safety.proofs.GenerationsHeld.{AllDrawn, drawn_step, start_drawn}
use Rattle.ld_safety.proofs.LostNodes.{kept_from, loaded_from, released_from}
use Rattle.ld_safety.proofs.LostRounds.{posted_to}
use Rattle.ld_safety.proofs.GivenSteps.{BaseGiven}
use Rattle.ld_safety.proofs.Sent.{network_same}
use Rattle.ld_safety.proofs.Settled.{Reached, TrimFine, CloseFine, ShowFine, ReleaseFine, LngFine}
use Rattle.ld_safety.proofs.Said.{Said, SaidHere}
use Rattle.ld_safety.proofs.Along.{Along, BodySaidIn}
use Rattle.ld_safety.proofs.AlongSteps.{along_kept}
use Rattle.ld_safety.proofs.Carried as carried
use Rattle.ld_safety.proofs.Withheld.{of_one}
use Rattle.ld_safety.proofs.ReaderSteps.{IsAskOf}
use Rattle.ld_machine.specs.Calm as Calm
use Rattle.ld_machine.specs.Calm.{announcements, Move}

-- ---- what sequencers send ----
abbrev pub OfSequencer : Body → Type 0
OfSequencer (bodies.Store n lng x) = Unit {0}
OfSequencer (bodies.DigestAsk n) = Unit {0}
OfSequencer (bodies.Release r) = Unit {0}
OfSequencer (bodies.Trim t) = Unit {0}
OfSequencer (bodies.Clean e y) = 0 < e
OfSequencer _ = ⊥

abbrev AllOfSequencer : List (ℕ × Body) → Type 0
AllOfSequencer bs = (b : ℕ × Body) → In b bs → OfSequencer b.1

no_bodies : AllOfSequencer []
no_bodies b i = absurd i

each_body : (x : Body) (ys : List ℕ) → OfSequencer x → AllOfSequencer (to_each x ys)
each_body x [] h b i = absurd i
each_body x (y ∷ ys) h b (inl e) = subst (λ (z : ℕ × Body). OfSequencer z.1) (sym e) h
each_body x (y ∷ ys) h b (inr i) = each_body x ys h b i

both_bodies : (xs ys : List (ℕ × Body)) → AllOfSequencer xs → AllOfSequencer ys → AllOfSequencer (xs ++ ys)
both_bodies xs ys h g b i = elim (In-append b xs ys i) [ inl a ↦ h b a | inr a ↦ g b a ]

asks_body : (d : List Told) → AllOfSequencer (digest_asks d)
asks_body [] = no_bodies
asks_body (t ∷ d) = cond_both t.whole (digest_asks d) ((t.node, bodies.DigestAsk t.asked) ∷ digest_asks d) AllOfSequencer (λ z. asks_body d) (λ z b i. elim i [ inl e ↦ subst (λ (x : ℕ × Body). OfSequencer x.1) (sym e) tt | inr j ↦ asks_body d b j ])

next_body : (y : ℕ) (d : List Told) → AllOfSequencer (next_ask y d)
next_body y [] = no_bodies
next_body y (t ∷ d) = cond_both (t.node == y) (if t.whole then [] else (y, bodies.DigestAsk t.asked) ∷ []) (next_ask y d) AllOfSequencer
    (λ z. cond_both t.whole [] ((y, bodies.DigestAsk t.asked) ∷ []) AllOfSequencer (λ u. no_bodies) (λ u b i. subst (λ (x : ℕ × Body). OfSequencer x.1) (sym (only b _ i)) tt)) (λ z. next_body y d)

recovery_body : (looks : ℕ → View) (q : Sequencer) (lce : ℕ) → AllOfSequencer (recovery_asks looks q lce)
recovery_body looks q lce = let d = no_digest (looks (lce + 1)).spec (lce + 1) in cond_both (nat_lt (lce + 1) q.epoch) (digest_asks d) [] AllOfSequencer (λ t. asks_body d) (λ t. no_bodies)

items_body : (s : Spec) (lost : List ℕ) (loss : Bool) (lng wave : ℕ) (is : List (ℕ × Planned)) → AllOfSequencer (item_stores s lost loss lng wave is)
items_body s lost loss lng wave [] = no_bodies
items_body s lost loss lng wave (i ∷ is) = both_bodies (to_each (bodies.Store i.0 lng i.1.what) (item_nodes s lost loss wave i.0 i.1.settled)) (item_stores s lost loss lng wave is)
    (each_body _ (item_nodes s lost loss wave i.0 i.1.settled) tt) (items_body s lost loss lng wave is)

appends_body : (s : Spec) (lost : List ℕ) (lng : ℕ) (ps : List (ℕ × Append)) → AllOfSequencer (append_stores s lost lng ps)
appends_body s lost lng [] = no_bodies
appends_body s lost lng (p ∷ ps) = both_bodies (if is_acked s p.1 then [] else to_each (bodies.Store p.0 lng (Rec p.1.payload)) (without p.1.stored (choice s lost p.0 p.1.wave))) (append_stores s lost lng ps)
    (cond_both (is_acked s p.1) [] (to_each (bodies.Store p.0 lng (Rec p.1.payload)) (without p.1.stored (choice s lost p.0 p.1.wave))) AllOfSequencer (λ t. no_bodies) (λ t. each_body _ (without p.1.stored (choice s lost p.0 p.1.wave)) tt)) (appends_body s lost lng ps)

record ActsSay (k : Called) : Type 0 where
  cleans : AllOfSequencer k.acts.cleans
  asks : AllOfSequencer k.acts.asks
  stores : AllOfSequencer k.acts.stores

-- what a call sends
said_by_acts : (q : Sequencer) (k : Called) → ActsSay k → AllOfSequencer (acted_messages q k.acts)
said_by_acts q k A = both_bodies k.acts.cleans _ A.cleans (both_bodies (release_messages q k.acts.sequencer) _
    (cond_both (rose q k.acts.sequencer) (to_each (bodies.Release (released_of k.acts.sequencer)) _) [] AllOfSequencer (λ t. each_body _ _ tt) (λ t. no_bodies)) (both_bodies k.acts.asks k.acts.stores A.asks A.stores))

-- and where the released number is told again
again_says : (again : Bool) (k : Called) → ActsSay k → ActsSay (announced again k)
again_says again k A = record {
  cleans = A.cleans;
  asks = both_bodies (if again then announcements k.acts.sequencer else []) k.acts.asks (cond_both again (announcements k.acts.sequencer) [] AllOfSequencer
      (λ t. cond_both (is_some k.acts.sequencer.preempted) [] (to_each (bodies.Release (released_of k.acts.sequencer)) (nodes_of k.acts.sequencer.spec)) AllOfSequencer (λ u. no_bodies) (λ u. each_body _ _ tt)) (λ t. no_bodies)) A.asks;
  stores = A.stores;
}

close_says : (r : Register) (looks : ℕ → View) (a : Acts) (e : ℕ) (y : Summary) (short : Bool) → 0 < e → AllOfSequencer a.cleans → AllOfSequencer a.asks → AllOfSequencer a.stores → Closing r looks a e y short ActsSay
close_says r looks a e y short pos cl ask st = record {
  granted = λ n h o g. record { cleans = each_body (bodies.Clean e y) _ pos; asks = recovery_body looks a.sequencer e; stores = st };
  passed = λ h. record { cleans = cl; asks = ask; stores = st };
  overtaken = λ h o. record { cleans = cl; asks = ask; stores = st };
  behind = λ b h. record { cleans = cl; asks = recovery_body looks a.sequencer (lce_of r a.sequencer.log); stores = st };
  failed = λ n g. record { cleans = cl; asks = ask; stores = st };
}

quiet_says : (r : Register) (a : Acts) → a.cleans ≡ [] → a.asks ≡ [] → a.stores ≡ [] → ActsSay (record { acts = a; register = r })
quiet_says r a p q s = record { cleans = subst AllOfSequencer (sym p) no_bodies; asks = subst AllOfSequencer (sym q) no_bodies; stores = subst AllOfSequencer (sym s) no_bodies }

module _ (c : Config) (r : Register) (q : Sequencer) (P : (v : Recovery) → q.recovery ≡ Some v → 0 < v.epoch) where
  -- on to the epoch after a closed one
  passes_say : (v : Recovery) (s : Summary) → 0 < v.epoch → ActsSay (acts_with r (passes (looks_at c r q.log) (does_nothing q) v.epoch s))
  passes_say v s p = record { cleans = each_body (bodies.Clean v.epoch s) _ p; asks = recovery_body (looks_at c r q.log) q v.epoch; stores = no_bodies }

  either_body : (y : ℕ) (d : List Told) (asks : List (ℕ × Body)) → (asks ≡ next_ask y d) ⊎ (asks ≡ []) → AllOfSequencer asks
  either_body y d asks (inl e) = subst AllOfSequencer (sym e) (next_body y d)
  either_body y d asks (inr e) = subst AllOfSequencer (sym e) no_bodies

  acting_says : (gone : Recovery → List ℕ) (y : ℕ) (b : Body) → Acting c r gone q y b (λ k m. ActsSay k)
  acting_says gone y b = record {
    quiet = quiet_says r _ refl refl refl;
    sealed = λ n k f i l. quiet_says r _ refl refl refl;
    cleaned_own = λ n s f i g. quiet_says r _ refl refl refl;
    acks = λ n p f i g k m. quiet_says r _ refl refl refl;
    lost_own = λ n round g end f i k. quiet_says r _ refl refl refl;
    cleaned = λ v n s f e i k. passes_say v s (P v e);
    asks_more = λ w d asks f h a n u. record { cleans = no_bodies; asks = either_body y d asks a; stores = no_bodies };
    plans = λ w d loss f h p. record { cleans = no_bodies; asks = no_bodies; stores = items_body w.spec w.lost _ _ 0 (planned (plan w.epoch loss d).items) };
    looks_closed = λ w d s f h u o. passes_say w s (heard_epoch q y b w d (λ k. 0 < k) P h);
    looks_later = λ w d f h u o n. quiet_says r _ refl refl refl;
    stores_on = λ w g f h t. quiet_says r _ refl refl refl;
    closes_now = λ w g f h t. close_says r _ _ w.epoch _ _ (stored_epoch q y b w g (λ k. 0 < k) P h) no_bodies no_bodies no_bodies;
    lost_closing = λ v s short n round g end f e i h k. quiet_says r _ refl refl refl;
  }

  again_stores : (v : Recovery) (g : Storing) → AllOfSequencer (retry_stores q v g).stores
  again_stores v g = both_bodies (item_stores v.spec v.lost g.loss g.lng (next_wave g.wave) g.items) (append_stores q.spec q.lost q.lng (raised q.spec q.appends)) (items_body v.spec v.lost g.loss g.lng (next_wave g.wave) g.items) (appends_body q.spec q.lost q.lng (raised q.spec q.appends))

  retrying_says : (gone : Recovery → List ℕ) → Retrying c r gone q (λ k m. ActsSay k)
  retrying_says gone = let again = appends_body q.spec q.lost q.lng (raised q.spec q.appends) in record {
    quiet = quiet_says r _ refl refl refl;
    appends = λ f. record { cleans = no_bodies; asks = no_bodies; stores = appends_body q.spec q.lost q.lng (raised q.spec q.appends) };
    seals = λ v d f e i u. record { cleans = no_bodies; asks = asks_body (with_asks v.epoch d); stores = again };
    plans = λ v d f e i p. record { cleans = no_bodies; asks = no_bodies; stores = both_bodies (item_stores v.spec v.lost (plan v.epoch true d).loss (plan v.epoch true d).lng 0 (planned (plan v.epoch true d).items)) (append_stores q.spec q.lost q.lng (raised q.spec q.appends)) (items_body v.spec v.lost (plan v.epoch true d).loss (plan v.epoch true d).lng 0 (planned (plan v.epoch true d).items)) again };
    looks_closed = λ v d s f e i u o. record { cleans = each_body (bodies.Clean v.epoch s) _ (P v e); asks = recovery_body (looks_at c r q.log) (retry_acts q).sequencer v.epoch; stores = again };
    looks_later = λ v d f e i u o n. record { cleans = no_bodies; asks = no_bodies; stores = again };
    stores_on = λ v g f e i t. record { cleans = no_bodies; asks = no_bodies; stores = again_stores v g };
    closes_now = λ v g f e i t. close_says r _ _ v.epoch _ _ (P v e) no_bodies no_bodies (again_stores v g);
    closes = λ v y short f e i. close_says r _ _ v.epoch y short (P v e) no_bodies no_bodies again;
  }

-- ---- what a message says ----
pub record MsgDrawn (r : Register) (m : Msg) : Type 0 where
  pub ballot : (b : ℕ) → m.from ≡ whos.Sequencer b → Reached r m.log b
  pub generation : (y n u g end : ℕ) → m.from ≡ whos.Node y → m.body ≡ bodies.LostHere n u g end → g ≤ generation_of r y
  pub seal : (n k : ℕ) → m.body ≡ bodies.SealedHere n k → Reached r m.log k
  pub clean : (e : ℕ) (y : Summary) → m.body ≡ bodies.Clean e y → 0 < e
  pub answer : (n : ℕ) (y : Summary) → m.body ≡ bodies.CleanHere n y → 0 < epoch_of n

message_later : (r k : Register) (m : Msg) → Up r k → NoneFalls r k → MsgDrawn r m → MsgDrawn k m
message_later r k m u n h = record {
  ballot = λ b q. let z = h.ballot b q in (z.0, let a = (u m.log).0 in let y = z.1 in omega arith);
  generation = λ y a b g end q p. (let z = h.generation y a b g end q p in let w = n y in omega arith);
  seal = λ a b q. let z = h.seal a b q in (z.0, let v = (u m.log).0 in let y = z.1 in omega arith);
  clean = h.clean;
  answer = h.answer;
}

-- of a sequencer
sequencer_says : (r : Register) (m : Msg) (l b y : ℕ) (x : Body) → m ≡ record { from = whos.Sequencer b; to = whos.Node y; log = l; body = x } → Reached r l b → OfSequencer x → MsgDrawn r m
sequencer_says r m l b y x q h o = subst (MsgDrawn r) (sym q) (record {
  ballot = λ a p. (let z : b ≡ a = cc in subst (Reached r l) z h);
  generation = λ a n u g end p z. absurd cc;
  seal = λ n k p. absurd (subst OfSequencer p o);
  clean = λ e s p. subst OfSequencer p o;
  answer = λ n s p. absurd (subst OfSequencer p o);
})

posted_says : (r : Register) (l b : ℕ) (bs : List (ℕ × Body)) → Reached r l b → AllOfSequencer bs → (m : Msg) → In m (posted (whos.Sequencer b) l bs) → MsgDrawn r m
posted_says r l b bs h a m i = let p = posted_to (whos.Sequencer b) l bs m i in sequencer_says r m l b p.0.0 p.0.1 p.2 h (a p.0 p.1)

-- an ask of a reader or of a node
ask_says : (r : Register) (m : Msg) (who : Who) (l : ℕ) (bs : List (ℕ × Body)) → ((b : ℕ) → who ≡ whos.Sequencer b → ⊥) → ((b : ℕ × Body) → In b bs → (u n : ℕ) × IsAskOf u n b.1) → In m (posted who l bs) → MsgDrawn r m
ask_says r m who l bs w a i = let p = posted_to who l bs m i in let k = a p.0 p.1 in elim k.2 [ inl q ↦ for_all p.0.0 p.0.1 k.0 k.1 p.2 q | inr q ↦ for_one p.0.0 p.0.1 k.0 k.1 q.0 q.1 p.2 q.2 ] where
  for_all : (n : ℕ) (x : Body) (u k : ℕ) → m ≡ record { from = who; to = whos.Node n; log = l; body = x } → x ≡ bodies.ReadAsk u k → MsgDrawn r m
  for_all n x u k e q = subst (MsgDrawn r) (sym (e ∙ ap (λ x. record { from = who; to = whos.Node n; log = l; body = x }) q)) (record {
    ballot = λ b q. absurd (w b q);
    generation = λ y n u g end q z. absurd cc;
    seal = λ n v q. absurd cc;
    clean = λ e s q. absurd cc;
    answer = λ n s q. absurd cc;
  })

  for_one : (n : ℕ) (x : Body) (u k : ℕ) (set excluded : List Bool) → m ≡ record { from = who; to = whos.Node n; log = l; body = x } → x ≡ bodies.ReadOne u k set excluded → MsgDrawn r m
  for_one n x u k set excluded e q = subst (MsgDrawn r) (sym (e ∙ ap (λ x. record { from = who; to = whos.Node n; log = l; body = x }) q)) (record {
    ballot = λ b q. absurd (w b q);
    generation = λ y n u g end q z. absurd cc;
    seal = λ n v q. absurd cc;
    clean = λ e s q. absurd cc;
    answer = λ n s q. absurd cc;
  })

-- ---- what a node answers ----
record AnswerDrawn (generation : ℕ) (g : Log) (x : Body) : Type 0 where
  lost : (n u k end : ℕ) → x ≡ bodies.LostHere n u k end → k ≡ generation
  seal : (n k : ℕ) → x ≡ bodies.SealedHere n k → (k ≡ g.sealed) × (0 < k)
  clean : (e : ℕ) (y : Summary) → x ≡ bodies.Clean e y → ⊥
  answer : (n : ℕ) (y : Summary) → x ≡ bodies.CleanHere n y → 0 < epoch_of n

abbrev Plainly : Body → Type 0
Plainly (bodies.LostHere n u k end) = ⊥
Plainly (bodies.SealedHere n k) = ⊥
Plainly (bodies.Clean e y) = ⊥
Plainly (bodies.CleanHere n y) = ⊥
Plainly _ = Unit {0}

plain_answer : (generation : ℕ) (g : Log) (x : Body) → Plainly x → AnswerDrawn generation g x
plain_answer generation g x h = record { lost = λ n u k end q. absurd (subst Plainly q h); seal = λ n k q. absurd (subst Plainly q h); clean = λ e y q. subst Plainly q h; answer = λ n y q. absurd (subst Plainly q h) }

lost_answer : (generation : ℕ) (g : Log) (n u end : ℕ) → AnswerDrawn generation g (bodies.LostHere n u generation end)
lost_answer generation g n u end = record { lost = λ m v k z q. (let y : generation ≡ k = cc in sym y); seal = λ m k q. absurd cc; clean = λ e y q. cc; answer = λ m y q. absurd cc }

refused_answer : (generation s : ℕ) (g : Log) (x : Body) (d : Decision) → 0 < epoch_of s → ((v : ℕ) → d ≡ Sealed v → (v ≡ g.sealed) × (0 < v)) → refusal generation s d ≡ Some x → AnswerDrawn generation g x
refused_answer generation s g x (Lost end) p h q = subst (AnswerDrawn generation g) (Some_inj q) (lost_answer generation g s 0 end)
refused_answer generation s g x (CleanAlready y) p h q = subst (AnswerDrawn generation g) (Some_inj q) (record { lost = λ n u k end z. absurd cc; seal = λ n k z. absurd cc; clean = λ e t z. cc; answer = λ n t z. (let w : s ≡ n = cc in subst (λ k. 0 < epoch_of k) w p) })
refused_answer generation s g x (Trimmed t) p h q = subst (AnswerDrawn generation g) (Some_inj q) (plain_answer generation g (bodies.TrimmedHere s t) tt)
refused_answer generation s g x (Sealed v) p h q = subst (AnswerDrawn generation g) (Some_inj q) (record { lost = λ n u k end z. absurd cc; seal = λ n k z. (let w : v ≡ k = cc in subst (λ a. (a ≡ g.sealed) × (0 < a)) w (h v refl)); clean = λ e t z. cc; answer = λ n t z. absurd cc })
refused_answer generation s g x Same p h q = absurd (not_none q)
refused_answer generation s g x Take p h q = absurd (not_none q)

store_drawn : (generation s : ℕ) (g : Log) (x : Body) (d : Decision) → 0 < epoch_of s → ((v : ℕ) → d ≡ Sealed v → (v ≡ g.sealed) × (0 < v)) → store_answer generation s d ≡ Some x → AnswerDrawn generation g x
store_drawn generation s g x (Lost end) p h q = refused_answer generation s g x (Lost end) p h q
store_drawn generation s g x (CleanAlready y) p h q = refused_answer generation s g x (CleanAlready y) p h q
store_drawn generation s g x (Trimmed t) p h q = refused_answer generation s g x (Trimmed t) p h q
store_drawn generation s g x (Sealed v) p h q = refused_answer generation s g x (Sealed v) p h q
store_drawn generation s g x Same p h q = subst (AnswerDrawn generation g) (Some_inj q) (plain_answer generation g (bodies.Stored s) tt)
store_drawn generation s g x Take p h q = subst (AnswerDrawn generation g) (Some_inj q) (plain_answer generation g (bodies.Stored s) tt)

digest_drawn : (generation s : ℕ) (g : Log) (x : Body) (d : Decision) → 0 < epoch_of s → ((v : ℕ) → d ≡ Sealed v → (v ≡ g.sealed) × (0 < v)) → digest_answer generation g s d ≡ Some x → AnswerDrawn generation g x
digest_drawn generation s g x (Lost end) p h q = refused_answer generation s g x (Lost end) p h q
digest_drawn generation s g x (CleanAlready y) p h q = refused_answer generation s g x (CleanAlready y) p h q
digest_drawn generation s g x (Trimmed t) p h q = refused_answer generation s g x (Trimmed t) p h q
digest_drawn generation s g x (Sealed v) p h q = refused_answer generation s g x (Sealed v) p h q
digest_drawn generation s g x Same p h q = subst (AnswerDrawn generation g) (Some_inj q) (plain_answer generation g _ tt)
digest_drawn generation s g x Take p h q = subst (AnswerDrawn generation g) (Some_inj q) (plain_answer generation g _ tt)

sealed_store : (g : Log) (e : Entry) (v : ℕ) → store_decision g e ≡ Sealed v → (v ≡ g.sealed) × (0 < v)
sealed_store g e v = store_decided g e (λ d. d ≡ Sealed v → (v ≡ g.sealed) × (0 < v)) (record {
  lost = λ t q. absurd cc;
  clean = λ y t k q. absurd cc;
  trimmed = λ s k q. absurd cc;
  sealed = λ s a k q. (let z : g.sealed ≡ v = cc in (sym z, omega arith));
  same = λ s a b k q. absurd cc;
  takes = λ s a b q. absurd cc;
})

sealed_ask : (g : Log) (ballot from v : ℕ) → digest_decision g ballot from ≡ Sealed v → (v ≡ g.sealed) × (0 < v)
sealed_ask g ballot from v = ask_decided g ballot from (λ d. d ≡ Sealed v → (v ≡ g.sealed) × (0 < v)) (record {
  lost = λ t q. absurd cc;
  clean = λ y t k q. absurd cc;
  sealed = λ s k q. (let z : g.sealed ≡ v = cc in (sym z, omega arith));
  same = λ s k q. absurd cc;
  takes = λ s k q. absurd cc;
})

read_drawn : (generation : ℕ) (g : Log) (released round from : ℕ) → AnswerDrawn generation g (read_answer generation g released round from)
read_drawn generation g released round from = read_answered generation g released round from (AnswerDrawn generation g) (record {
  trimmed = λ h. plain_answer generation g _ tt;
  ended = λ y a h k. plain_answer generation g _ tt;
  lost_clean = λ y a h k t. lost_answer generation g from round _;
  lost = λ a h t. lost_answer generation g from round 0;
  clean = λ y a h k t. plain_answer generation g _ tt;
  open_page = λ a h t u. plain_answer generation g _ tt;
  waits = λ a. plain_answer generation g _ tt;
})

-- stores and asks for digests are of epochs from 1 on
abbrev FromOne : Body → Type 0
FromOne (bodies.Store n lng x) = 0 < epoch_of n
FromOne (bodies.DigestAsk n) = 0 < epoch_of n
FromOne _ = Unit {0}

one_drawn : (generation : ℕ) (g : Log) (self : ℕ) (set excluded : List Bool) (b : Body) → AnswerDrawn generation g b → AnswerDrawn generation g (withheld_in self set excluded b)
one_drawn generation g self set excluded (bodies.ReadPage round from upto clean es) h = record { lost = λ m v k z q. absurd cc; seal = λ m k q. absurd cc; clean = λ e y q. cc; answer = λ m y q. absurd cc }
one_drawn generation g self set excluded _ h = h

handled_answer : (self generation : ℕ) (g : Log) (l ballot released : ℕ) (b x : Body) → FromOne b → (handled_by self generation g l ballot released b).answer ≡ Some x → AnswerDrawn generation g x
unfolding on_store on_digest_ask on_clean on_trim on_page
handled_answer self generation g l ballot released (bodies.Store n lng w) x p h = store_drawn generation n g x (store_decision g (record { number = n; ballot = ballot; what = w })) p (sealed_store g (record { number = n; ballot = ballot; what = w })) h
handled_answer self generation g l ballot released (bodies.DigestAsk from) x p h = digest_drawn generation from g x (digest_decision g ballot from) p (sealed_ask g ballot from) h
handled_answer self generation g l ballot released (bodies.Clean e y) x p h = absurd (not_none h)
handled_answer self generation g l ballot released (bodies.Trim t) x p h = absurd (not_none h)
handled_answer self generation g l ballot released (bodies.ReadAsk round from) x p h = subst (AnswerDrawn generation g) (Some_inj h) (read_drawn generation g released round from)
handled_answer self generation g l ballot released (bodies.ReadOne round from set excluded) x p h = subst (AnswerDrawn generation g) (Some_inj h) (of_one self set excluded (AnswerDrawn generation g) generation g released round from (λ b k. one_drawn generation g self set excluded b k) (read_drawn generation g released round from))
handled_answer self generation g l ballot released _ x p h = absurd (not_none h)

-- ---- seals of nodes ----
abbrev SealsAt : Register → Plain → Type 0
SealsAt r p = (l : ℕ) → (log_of p l).sealed ≤ (epochs_of r l).epoch

abbrev SealDrawn : Register → Node → Type 0
SealDrawn r x = (p : Plain) → MayHold x p → SealsAt r p

abbrev OpSeals : Register → Op → Type 0
OpSeals r (ops.Accept l lng e) = e.ballot ≤ (epochs_of r l).epoch
OpSeals r (ops.Seal l b) = b ≤ (epochs_of r l).epoch
OpSeals r _ = Unit {0}

with_seals : (r : Register) (p : Plain) (l : ℕ) (g : Log) → SealsAt r p → g.sealed ≤ (epochs_of r l).epoch → SealsAt r (with_log p l g)
with_seals r p l g F h k = elim (put_cases k l g p.logs) [
  | inl a ↦ subst (λ (o : Option Log). (unwrap_or o empty_log).sealed ≤ (epochs_of r k).epoch) (sym a.1) (subst (λ j. g.sealed ≤ (epochs_of r j).epoch) (sym a.0) h)
  | inr a ↦ subst (λ (o : Option Log). (unwrap_or o empty_log).sealed ≤ (epochs_of r k).epoch) (sym a.1) (F k)
]

unsealed : (ds : List (ℕ × ℕ)) (l : ℕ) → (unwrap_or (find l (lost_logs ds)) empty_log).sealed ≡ 0
unfolding find
unsealed [] l = refl
unsealed (d ∷ ds) l = by_key (is_at (nat_cmp l) d.0) (find l (lost_logs ds)) (unsealed ds l) where
  by_key : (b : Bool) (o : Option Log) → (unwrap_or o empty_log).sealed ≡ 0 → (unwrap_or (cond b (Some (lost_log d.1)) o) empty_log).sealed ≡ 0
  by_key true o h = refl
  by_key false o h = h

op_seals : (r : Register) (p : Plain) (o : Op) → OpSeals r o → SealsAt r p → SealsAt r (apply p o)
unfolding apply
op_seals r p (ops.Format generation epochs) h F = λ l. (let z = unsealed epochs l in omega arith)
op_seals r p (ops.Accept l lng e) h F = with_seals r p l _ F h
op_seals r p (ops.Seal l b) h F = with_seals r p l _ F h
op_seals r p (ops.Clean l epoch y) h F = with_seals r p l _ F (F l)
op_seals r p (ops.Trim l t) h F = with_seals r p l _ F (F l)
op_seals r p (ops.Refill l es) h F = with_seals r p l _ F (F l)
op_seals r p (ops.Refilled l) h F = with_seals r p l _ F (F l)

taken_seals : (r : Register) (o q : Op) (d : Decision) → OpSeals r o → taken o d ≡ Some q → OpSeals r q
taken_seals r o q Take h e = subst (OpSeals r) (Some_inj e) h
taken_seals r o q (Lost end) h e = absurd (not_none e)
taken_seals r o q (CleanAlready y) h e = absurd (not_none e)
taken_seals r o q (Trimmed t) h e = absurd (not_none e)
taken_seals r o q (Sealed b) h e = absurd (not_none e)
taken_seals r o q Same h e = absurd (not_none e)

if_seals : (r : Register) (b : Bool) (o : Option Op) (q : Op) → (o ≡ Some q → OpSeals r q) → (if b then o else None) ≡ Some q → OpSeals r q
if_seals r true o q h e = h e
if_seals r false o q h e = absurd (not_none e)

clean_seals : (r : Register) (l e : ℕ) (y : Summary) (o : Option Summary) (q : Op) → clean_op l e y o ≡ Some q → OpSeals r q
clean_seals r l e y None q h = subst (OpSeals r) (Some_inj h) tt
clean_seals r l e y (Some z) q h = absurd (not_none h)

refill_seals : (r : Register) (l : ℕ) (es : List Entry) (q : Op) → refill_op l es ≡ Some q → OpSeals r q
refill_seals r l [] q h = absurd (not_none h)
refill_seals r l (e ∷ es) q h = subst (OpSeals r) (Some_inj h) tt

page_seals : (r : Register) (g : Log) (l : ℕ) (b : Body) (q : Op) → page_op g l b ≡ Some q → OpSeals r q
page_seals r g l (bodies.ReadPage round from upto clean es) q h = if_seals r clean (refill_op l (lacking g es)) q (refill_seals r l (lacking g es) q) h
page_seals r g l (bodies.ReadTrim round from t) q h = if_seals r (nat_lt g.trim t) (Some (ops.Trim l t)) q (λ e. subst (OpSeals r) (Some_inj e) tt) h
page_seals r g l _ q h = absurd (not_none h)

on_page_seals : (r : Register) (g : Log) (l : ℕ) (b : Body) (q : Op) → (on_page g l b).op ≡ Some q → OpSeals r q
unfolding on_page
on_page_seals r g l b q h = if_seals r g.lost (page_op g l b) q (page_seals r g l b q) h

handled_seals : (r : Register) (self generation : ℕ) (g : Log) (l ballot released : ℕ) (b : Body) (q : Op) → ballot ≤ (epochs_of r l).epoch → (handled_by self generation g l ballot released b).op ≡ Some q → OpSeals r q
unfolding on_store on_digest_ask on_clean on_trim
handled_seals r self generation g l ballot released (bodies.Store n lng x) q u h = taken_seals r (ops.Accept l lng (record { number = n; ballot = ballot; what = x })) q (store_decision g (record { number = n; ballot = ballot; what = x })) u h
handled_seals r self generation g l ballot released (bodies.DigestAsk from) q u h = taken_seals r (ops.Seal l ballot) q (digest_decision g ballot from) u h
handled_seals r self generation g l ballot released (bodies.Clean e y) q u h = clean_seals r l e y _ q h
handled_seals r self generation g l ballot released (bodies.Trim t) q u h = if_seals r (nat_lt g.trim t) (Some (ops.Trim l t)) q (λ e. subst (OpSeals r) (Some_inj e) tt) h
handled_seals r self generation g l ballot released (bodies.ReadAsk round from) q u h = absurd (not_none h)
handled_seals r self generation g l ballot released (bodies.ReadOne round from set excluded) q u h = absurd (not_none h)
handled_seals r self generation g l ballot released b q u h = on_page_seals r g l b q h

kept_seals : (r : Register) (x : Node) (o : Op) → OpSeals r o → SealDrawn r x → SealDrawn r (keep_op x o)
kept_seals r x o f h p q = elim (kept_from x o p q).from [ inl a ↦ h p a | inr a ↦ subst (SealsAt r) (sym a) (op_seals r x.plain o f (h x.plain (inl refl))) ]

blank_seals : (r : Register) → SealDrawn r new_node
unfolding find
blank_seals r p (inl q) = subst (SealsAt r) (sym q) (λ l. omega arith)
blank_seals r p (inr q) = absurd (not_none q.1)

released_seals : (r : Register) (x : Node) (k : ℕ) (b : Body) → SealDrawn r x → SealDrawn r (Step.releases x k b)
released_seals r x k b h p q = h p (released_from x k b p q)

abbrev AllMessages : Register → List Msg → Type 0
AllMessages r ms = (m : Msg) → In m ms → MsgDrawn r m

ballot_low : (r : Register) (m : Msg) (w : Who) → m.from ≡ w → MsgDrawn r m → ballot_of w ≤ (epochs_of r m.log).epoch
ballot_low r m (whos.Sequencer b) q h = (h.ballot b q).1
ballot_low r m (whos.Node y) q h = omega arith
ballot_low r m (whos.Reader y) q h = omega arith

module _ (c : Config) (s : State) (e : Move) (M : AllMessages s.register s.network.sent) (S : (y : ℕ) → SealDrawn s.register (node_at s y)) (D : AllDrawn s.register s)
    (one : (m : Msg) → In m s.network.sent → FromOne m.body) (own : (name : List ℕ) (q : Sequencer) → find_named name s.sequencers ≡ Some q → Reached s.register q.log q.epoch)
    (recovers : (name : List ℕ) (q : Sequencer) → find_named name s.sequencers ≡ Some q → (v : Recovery) → q.recovery ≡ Some v → 0 < v.epoch) where
  seals_keep : NodeKeeps c s e (λ y x. SealDrawn s.register x)
  seals_keep = record {
    all = S;
    hears = λ n m i t u. released_seals s.register (node_at s n) m.log m.body (S n);
    keeps = λ n m o i t u q. kept_seals s.register (Step.releases (node_at s n) m.log m.body) o (handled_seals s.register n (node_at s n).plain.generation (log_of (node_at s n).plain m.log) m.log (ballot_of m.from) (Step.released_at (node_at s n) m.log) m.body o (ballot_low s.register m m.from refl (M m i)) q) (released_seals s.register (node_at s n) m.log m.body (S n));
    loads = λ n p q. S n p (loaded_from (node_at s n) p q);
    formats = λ n r b w i. kept_seals s.register (load (node_at s n)) (ops.Format (generation_of r n) (epochs_in r.logs)) tt (λ p q. S n p (loaded_from (node_at s n) p q));
    cleans = λ n l k y u q. kept_seals s.register (node_at s n) (ops.Clean l k y) tt (S n);
    rebuilds = λ n l u q. kept_seals s.register (node_at s n) (ops.Refilled l) tt (S n);
    stops = λ n. S n;
    wipes = λ n. blank_seals s.register;
    faults = λ n f. S n;
  }

  -- what a step sends, over the register after it
  Result : Done → Type 0
  Result d = Up s.register d.state.register → NoneFalls s.register d.state.register → AllMessages d.state.register d.sends

  nothing : (d : Done) → d.sends ≡ [] → Result d
  unfolding Result
  nothing d q u n m i = absurd (subst (λ (z : List Msg). In m z) q i)

  answer_says : (n : ℕ) (m : Msg) (b : Option Body) → In m s.network.sent → (Step.node_handles n (node_at s n) m).answer ≡ b → AllMessages s.register (answer_message n m b)
  answer_says n m None i q z j = absurd j
  answer_says n m (Some x) i q z j =
      let g = log_of (node_at s n).plain m.log in
      let a = handled_answer n (node_at s n).plain.generation g m.log (ballot_of m.from) (Step.released_at (node_at s n) m.log) m.body x (one m i) q in
      let y : z ≡ record { from = whos.Node n; to = m.from; log = m.log; body = x } = only z _ j in
      subst (MsgDrawn s.register) (sym y) (record {
        ballot = λ b p. absurd cc;
        generation = λ k t u v end p w. (let p1 : n ≡ k = cc in let p2 = a.lost t u v end w in let p3 = D n (node_at s n).plain (inl refl) in subst (λ o. v ≤ generation_of s.register o) p1 (omega arith));
        seal = λ t k w. let p2 = a.seal t k w in (p2.1, let p1 = p2.0 in let p3 = S n (node_at s n).plain (inl refl) m.log in omega arith);
        clean = λ t k w. absurd (a.clean t k w);
        answer = a.answer;
      })

  if_written : (k : Kept) (ms : List Msg) → AllMessages s.register ms → AllMessages s.register (cond (Step.is_written k) ms [])
  if_written Written ms h = h
  if_written DiskFailed ms h = λ m i. absurd i
  if_written Crashed ms h = λ m i. absurd i
  if_written JournalFull ms h = λ m i. absurd i

  handled : (f : List ℕ) (x : Node) (n : ℕ) (m : Msg) (o : Option Op) (b : Option Body) → AllMessages s.register (answer_message n m b) → Result (Step.handles (with_node (refreshed s f) n x) n m o b)
  unfolding Result
  handled f x n m None b h u v z i = h z i
  handled f x n m (Some o) b h u v z i = if_written (keep_end (node_at (with_node (refreshed s f) n x) n) o) (answer_message n m b) h z i

  no_sends : (k : Kept) (m : Msg) → In m (cond (Step.is_written k) [] []) → ⊥
  no_sends Written m i = i
  no_sends DiskFailed m i = i
  no_sends Crashed m i = i
  no_sends JournalFull m i = i

  each_ask : (u n : ℕ) (ys : List ℕ) (b : ℕ × Body) → In b (to_each (bodies.ReadAsk u n) ys) → (v k : ℕ) × IsAskOf v k b.1
  each_ask u n [] b i = absurd i
  each_ask u n (y ∷ ys) b (inl q) = (u, n, inl (ap (λ (z : ℕ × Body). z.1) q))
  each_ask u n (y ∷ ys) b (inr i) = each_ask u n ys b i

  ticked : (n l : ℕ) (t : Ticked) → Result (Step.ticks_as c s n l t)
  unfolding Result
  ticked n l (Cleans k y) u v m i = absurd (no_sends (keep_end (node_at s n) (ops.Clean l k y)) m i)
  ticked n l Rebuilt u v m i = absurd (no_sends (keep_end (node_at s n) (ops.Refilled l)) m i)
  ticked n l (Asks from) u v m i = ask_says s.register m (whos.Node n) l (node_asks n (all_nodes c) from) (λ b q. cc) (each_ask 0 from (without (n ∷ []) (all_nodes c))) i
  ticked n l Nothing u v m i = absurd i

  acted : (again : Bool) (f : List ℕ) (name : List ℕ) (q : Sequencer) (call : Called) → find_named name s.sequencers ≡ Some q → ActsSay call → Result (Step.told (refreshed s f) name q (announced again call))
  unfolding Result
  acted again f name q call g h u n m i = posted_says _ q.log q.epoch (acted_messages q (announced again call).acts) (let o = own name q g in (o.0, let z = (u q.log).0 in let y = o.1 in omega arith)) (said_by_acts q (announced again call) (again_says again call h)) m i

  from_own : (d : Done) (name : List ℕ) (q : Sequencer) (x : Body) (ys : List ℕ) → find_named name s.sequencers ≡ Some q → OfSequencer x → d.sends ≡ posted (whos.Sequencer q.epoch) q.log (to_each x ys) → Result d
  unfolding Result
  from_own d name q x ys g o w u n m i = posted_says d.state.register q.log q.epoch (to_each x ys) (let k = own name q g in (k.0, let z = (u q.log).0 in let y = k.1 in omega arith)) (each_body x ys o) m (subst (λ (z : List Msg). In m z) w i)

  new_epoch : (l : ℕ) (k : Register) → activate s.register l (Step.spec_set c s l) ≡ record { register = k; answer = Granted } → (epochs_of k l).epoch ≡ (epochs_of s.register l).epoch + 1
  new_epoch l k i = ap (λ (x : Epochs). x.epoch) (activated_epochs s.register l (Step.spec_set c s l) k i)

  activated_says : (name : List ℕ) (l : ℕ) (k : Register) → activate s.register l (Step.spec_set c s l) ≡ record { register = k; answer = Granted } → Result (Step.activated_as c s name l k (epochs_of k l).epoch (lce_of k l))
  unfolding Result
  activated_says name l k i u n m j = posted_says k l (epochs_of k l).epoch (recovery_asks (looks_at c k l) (activated (looks_at c k l) (Step.spec_set c s l) l (epochs_of k l).epoch (lce_of k l)) (lce_of k l)) (let z = new_epoch l k i in (omega arith, omega arith)) (recovery_body (looks_at c k l) (activated (looks_at c k l) (Step.spec_set c s l) l (epochs_of k l).epoch (lce_of k l)) (lce_of k l)) m j

  reads_say : (f : List ℕ) (name : List ℕ) (d : Reader) (y : ℕ) (b : Body) → Reading s name d → Result (Step.read (refreshed s f) name (on_answer (looks_at c s.register d.log) d y b))
  unfolding Result
  reads_say f name d y b v u n m i = let a = on_answer (looks_at c s.register d.log) d y b in ask_says s.register m (whos.Reader a.reader.number) a.reader.log a.asks (λ k q. cc) (λ x j. let z = (read_on (looks_at c s.register d.log) d y b v.open_still).asks x j in (z.at, z.from, z.is)) i

  polls_say : (name : List ℕ) (d : Reader) → Result (record { state = with_reader s name (polled (looks_at c s.register d.log) d); lines = []; sends = posted (whos.Reader d.number) d.log (poll_asks (looks_at c s.register d.log) d) })
  unfolding Result
  polls_say name d u n m i = ask_says s.register m (whos.Reader d.number) d.log (poll_asks (looks_at c s.register d.log) d) (λ k q. cc) (λ x j. let z = poll_are (looks_at c s.register d.log) d x j in ((polled (looks_at c s.register d.log) d).round, d.next, z.0)) i

  formatted : (n : ℕ) (r : Register) → Result (Step.keeps_op (with_register (loaded s n) r) n (ops.Format (generation_of r n) (epochs_in r.logs)) (Step.format_lines c n r) [])
  unfolding Result
  formatted n r u v m i = absurd (no_sends (keep_end (node_at (with_register (loaded s n) r) n) (ops.Format (generation_of r n) (epochs_in r.logs))) m i)

  says_cases : Cases c s e (λ d m. Result d)
  says_cases = record {
    still = λ f older i. nothing _ refl;
    says = λ x q. nothing _ refl;
    node_hears = λ f older n m i t v o. handled f (Step.releases (node_at s n) m.log m.body) n m (Step.node_handles n (node_at s n) m).op (Step.node_handles n (node_at s n) m).answer (answer_says n m (Step.node_handles n (node_at s n) m).answer i refl);
    loads = λ n ls q b o. nothing _ refl;
    draw_fails = λ n b. nothing _ refl;
    formats = λ n r g b v i. formatted n r;
    ticks = λ n l t v i o. ticked n l t;
    stops = λ n b. nothing _ refl;
    wipes = λ n. nothing _ refl;
    faults = λ n f o. nothing _ refl;
    sets = λ l r x set h. nothing _ refl;
    arms = λ k done o. nothing _ refl;
    hears = λ f older name q m i t l v o. acted false f name q (reply_call c s q (Step.sender_node m.from) m.body) v.named (replied c s name q v.there (Step.sender_node m.from) m.body (λ k n. ActsSay k) (acting_says c s.register q (recovers name q v.named) (gone_of s q) (Step.sender_node m.from) m.body));
    retries = λ again name q v o. acted again s.network.fresh name q (retry_call c s q) v.named (retried c s q v.there (λ k n. ActsSay k) (retrying_says c s.register q (recovers name q v.named) (gone_of s q)));
    appends = λ name q p v a i. from_own (Step.append_done s name q p Numbered) name q _ _ v.named tt refl;
    trims = λ name q t v b. from_own (record { state = s; lines = lines.Trimmed name t ∷ []; sends = posted (whos.Sequencer q.epoch) q.log (to_each (bodies.Trim t) (all_nodes c)) }) name q _ _ v.named tt refl;
    drops = λ name q v o. nothing _ refl;
    activates = λ name l r g n i x. activated_says name l r i;
    swaps = λ n m l x r q i. nothing _ refl;
    activate_fails = λ name l x g q. nothing _ refl;
    answers = λ f older name d m i t v o. reads_say f name d (Step.sender_node m.from) m.body v;
    polls = λ name d v o. polls_say name d;
    opens = λ style name l from until o x. nothing _ refl;
  }

-- ---- along a run ----
pub record HandedOut (w : World) : Type 0 where
  pub generations : AllDrawn w.state.register w.state
  pub messages : (m : Msg) → Sent w m → MsgDrawn w.state.register m
  pub seals : (y : ℕ) (p : Plain) → MayHold (node_at w.state y) p → (l : ℕ) → (log_of p l).sealed ≤ (epochs_of w.state.register l).epoch

from_one : (c : Config) (hs : List Happened) (w : World) → Along c hs w → (m : Msg) → Sent w m → FromOne m.body
from_one c hs w R m i = by_body m.body (R.said.sent m i).0 where
  by_body : (b : Body) → BodySaidIn c hs w m.log m.from b → FromOne b
  by_body (bodies.Store n lng x) h = h.0.reached.0
  by_body (bodies.DigestAsk n) h = h.1.0
  by_body _ h = tt

handed_step : (c : Config) (hs : List Happened) (w : World) (e : Move) → BaseGiven c hs w × Along c hs w → HandedOut w → HandedOut (after_step c w e)
unfolding finish Result
handed_step c hs w e B H = record {
  generations = drawn_step c w e B.0.0.0.0 H.generations;
  messages = λ m i. elim (sent_by d m i) [
    | inl a ↦ message_later w.state.register d.state.register m up falls (H.messages m (subst (λ (z : List Msg). In m z) (network_same c w.state e B.0.0.0.0) a))
    | inr a ↦ (dispatch c w.state e (λ d m. Result c w.state e H.messages H.seals H.generations (from_one c hs w B.1) own recovers d) B.0.0.0.0 (says_cases c w.state e H.messages H.seals H.generations (from_one c hs w B.1) own recovers)) up falls m a
  ];
  seals = λ y p h l. (let z = dispatch c w.state e (λ d m. (y : ℕ) → SealDrawn w.state.register (node_at d.state y)) B.0.0.0.0 (node_cases c w.state e (λ y x. SealDrawn w.state.register x) (seals_keep c w.state e H.messages H.seals H.generations (from_one c hs w B.1) own recovers)) y p h l in let u = (up l).0 in omega arith);
} where
  d : Done
  d = Calm.moves c w.state e

  up : Up w.state.register (Calm.moves c w.state e).state.register
  up = (follows c w.state e B.0.0.0.0 B.0.0.1.0).0

  falls : NoneFalls w.state.register (Calm.moves c w.state e).state.register
  falls = generations_step c w e B.0.0.0.0

  own : (name : List ℕ) (q : Sequencer) → find_named name w.state.sequencers ≡ Some q → Reached w.state.register q.log q.epoch
  own name q f = (B.0.0.0.1.epochs.positive name q f, B.0.0.0.1.epochs.drawn name q f)

  recovers : (name : List ℕ) (q : Sequencer) → find_named name w.state.sequencers ≡ Some q → (v : Recovery) → q.recovery ≡ Some v → 0 < v.epoch
  recovers name q f v r = (subst (carried.RecoveryOk (Said hs w.made w.state.register) (TrimFine c hs w.state.network.sent w.state.register) (CloseFine c hs w.made w.state.network.sent w.state.register) (Reached w.state.register) (ShowFine c hs w.made w.state.network.sent w.state.register) (ReleaseFine c hs w.state.network.sent w.state.register) (SaidHere hs w.made w.state.register) (LngFine c hs w.state.network.sent w.state.register) q.log q.epoch) r (B.1.said.sequencers name q f).recovery).0.0

starts_sealed : (r : Register) (ns : List ℕ) (y : ℕ) → SealDrawn r (unwrap_or (find y (new_nodes ns)) new_node)
unfolding find
starts_sealed r [] y = blank_seals r
starts_sealed r (n ∷ ns) y = start_or _ (find y (new_nodes ns)) (starts_sealed r ns y) where
  start_or : (b : Bool) (o : Option Node) → SealDrawn r (unwrap_or o new_node) → SealDrawn r (unwrap_or (cond b (Some new_node) o) new_node)
  start_or true o i = blank_seals r
  start_or false o i = i

pub handed_kept : (c : Config) → Keeps c (λ hs w. (BaseGiven c hs w × Along c hs w) × HandedOut w)
handed_kept c = beside_kept c (λ hs w. BaseGiven c hs w × Along c hs w) (λ hs w. HandedOut w) (along_kept c) (record { generations = start_drawn c; messages = λ m i. absurd i; seals = λ y. starts_sealed (begin c).state.register (members c.nodes) y })
    (λ hs w e B C H. handed_step c hs w e B H)
