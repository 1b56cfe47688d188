-- No step of a calm sends a trim: sequencers' calls, nodes' answers, ticks and readers' asks have none.
use Rattle.std.proofs.Common.{◌≡◌, ℕ, ◌+◌, inl, inr, refl, sym, subst, Bool, true, false, ◌==◌, nat_lt, nat_le, if◌then◌else◌, List, [], ◌∷◌, ◌++◌, Option, Some, None, is_some}
use Rattle.ld_table.specs.Words.{without}
use Rattle.ld_lsn.specs.Number.{epoch_of, home_epoch, home_esn, numbered, last_esn}
use Rattle.ld_ids.specs.declared.set.Spec.{Spec}
use Rattle.ld_ids.specs.Choice.{nodes_of}
use Rattle.ld_config.specs.declared.config.Config.{Config}
use Rattle.ld_msg.specs.declared.msg.Entry.{Entry}
use Rattle.ld_msg.specs.declared.msg.Summary.{Summary}
use Rattle.ld_msg.specs.declared.msg.What.TheVariants.{Rec}
use Rattle.ld_msg.specs.declared.msg.Who.{Who}
use Rattle.ld_msg.specs.declared.msg.Msg.{Msg}
use Rattle.ld_msg.specs.declared.msg.Body.{Body}
use Rattle.ld_msg.specs.declared.msg.Body.TheVariants as bodies
use Rattle.ld_msg.specs.Choice.{choice}
use Rattle.ld_msg.specs.Network.{posted}
use Rattle.ld_msg.specs.Register.{Register, View, lce_of}
use Rattle.ld_msg.specs.Digest.{Told, no_digest, with_asks, plan}
use Rattle.ld_msg.specs.Sequencer.{Sequencer, Recovery, Append, Planned, planned, Acts, to_each, digest_asks, next_ask, item_nodes, item_stores, append_stores, raised, is_acked, recovery_asks, rose, released_of, acted_messages}
use Rattle.ld_op.specs.Plain.{Log, summary_at, is_lost}
use Rattle.ld_op.specs.Answers.{Decision, Lost, CleanAlready, Trimmed, Sealed, Same, Take, store_decision, digest_decision, store_answer, digest_answer, digest_page, entries_within, on_store, on_digest_ask, on_clean, on_trim, read_answer, one_answer, withheld_in, epoch_answer, lost_or, open_answer, lets_read, clean_page, read_page, readable}
use Rattle.ld_op.specs.Handles.{handled_by, answer_message}
use Rattle.ld_op.specs.Ticks.{on_page, node_asks}
use Rattle.ld_machine.specs.Config.{looks_at}
use Rattle.ld_machine.specs.State.{State}
use Rattle.ld_machine.specs.World.{In}
use Rattle.ld_safety.proofs.Events.{retry_call}
use Rattle.ld_safety.proofs.Lists.{cond_both, In-append}
use Rattle.ld_safety.proofs.SequencerSteps.{Closing, Acting, Retrying, gone_of, replied, retried}
use Rattle.ld_machine.specs.Calm.{announcements, calm_messages}
use Rattle.ld_calm.proofs.Deliveries.{reply_call}

abbrev pub NotTrim : Body → Type 0
NotTrim (bodies.Trim t) = ⊥
NotTrim _ = Unit {0}

-- ---- lists of a sequencer ----
abbrev pub NoTrims : List (ℕ × Body) → Type 0
NoTrims bs = (x : ℕ × Body) → In x bs → NotTrim x.1

nothing : NoTrims []
nothing x i = absurd i

pub both : (ds bs : List (ℕ × Body)) → NoTrims ds → NoTrims bs → NoTrims (ds ++ bs)
both ds bs h k x i = elim (In-append x ds bs i) [ inl a ↦ h x a | inr a ↦ k x a ]

pub each_free : (b : Body) (ys : List ℕ) → NotTrim b → NoTrims (to_each b ys)
each_free b [] h x i = absurd i
each_free b (y ∷ ys) h x (inl e) = subst (λ (z : ℕ × Body). NotTrim z.1) (sym e) h
each_free b (y ∷ ys) h x (inr i) = each_free b ys h x i

asks_free : (d : List Told) → NoTrims (digest_asks d)
asks_free [] = nothing
asks_free (t ∷ d) = let ih : NoTrims (digest_asks d) = asks_free d in cond_both t.whole (digest_asks d) ((t.node, bodies.DigestAsk t.asked) ∷ digest_asks d) NoTrims (λ k. ih)
    (λ k x i. elim i [ inl e ↦ subst (λ (z : ℕ × Body). NotTrim z.1) (sym e) tt | inr j ↦ ih x j ])

next_free : (y : ℕ) (d : List Told) → NoTrims (next_ask y d)
next_free y [] = nothing
next_free y (t ∷ d) = cond_both (t.node == y) (if t.whole then [] else (y, bodies.DigestAsk t.asked) ∷ []) (next_ask y d) NoTrims
    (λ u. cond_both t.whole [] ((y, bodies.DigestAsk t.asked) ∷ []) NoTrims (λ k. nothing) (λ k x i. elim i [ inl e ↦ subst (λ (z : ℕ × Body). NotTrim z.1) (sym e) tt | inr j ↦ absurd j ])) (λ u. next_free y d)

items_free : (s : Spec) (lost : List ℕ) (loss : Bool) (lng wave : ℕ) (is : List (ℕ × Planned)) → NoTrims (item_stores s lost loss lng wave is)
items_free s lost loss lng wave [] = nothing
items_free s lost loss lng wave (i ∷ is) = both _ _ (each_free (bodies.Store i.0 lng i.1.what) (item_nodes s lost loss wave i.0 i.1.settled) tt) (items_free s lost loss lng wave is)

appends_free : (s : Spec) (lost : List ℕ) (lng : ℕ) (ps : List (ℕ × Append)) → NoTrims (append_stores s lost lng ps)
appends_free s lost lng [] = nothing
appends_free s lost lng (p ∷ ps) = both _ _
    (cond_both (is_acked s p.1) [] (to_each (bodies.Store p.0 lng (Rec p.1.payload)) (without p.1.stored (choice s lost p.0 p.1.wave))) NoTrims (λ t. nothing)
    (λ t. each_free (bodies.Store p.0 lng (Rec p.1.payload)) (without p.1.stored (choice s lost p.0 p.1.wave)) tt)) (appends_free s lost lng ps)

pub recovers_free : (looks : ℕ → View) (q : Sequencer) (lce : ℕ) → NoTrims (recovery_asks looks q lce)
recovers_free looks q lce = cond_both (nat_lt (lce + 1) q.epoch) (digest_asks (no_digest (looks (lce + 1)).spec (lce + 1))) [] NoTrims (λ t. asks_free (no_digest (looks (lce + 1)).spec (lce + 1))) (λ t. nothing)

-- ---- what a call sends ----
pub record ActsFree (a : Acts) : Type 0 where
  pub cleans : NoTrims a.cleans
  pub asks : NoTrims a.asks
  pub stores : NoTrims a.stores

quiet_free : (a : Acts) → a.cleans ≡ [] → a.asks ≡ [] → a.stores ≡ [] → ActsFree a
quiet_free a p q r = record { cleans = subst NoTrims (sym p) nothing; asks = subst NoTrims (sym q) nothing; stores = subst NoTrims (sym r) nothing }

close_free : (c : Config) (r : Register) (a : Acts) (e : ℕ) (y : Summary) (short : Bool) → ActsFree a → Closing r (looks_at c r a.sequencer.log) a e y short (λ k. ActsFree k.acts)
close_free c r a e y short h = record {
  granted = λ n i o g. record { cleans = each_free (bodies.Clean e y) _ tt; asks = recovers_free (looks_at c r a.sequencer.log) a.sequencer e; stores = h.stores };
  passed = λ i. record { cleans = h.cleans; asks = h.asks; stores = h.stores };
  behind = λ b i. record { cleans = h.cleans; asks = recovers_free (looks_at c r a.sequencer.log) a.sequencer (lce_of r a.sequencer.log); stores = h.stores };
  overtaken = λ i o. record { cleans = h.cleans; asks = h.asks; stores = h.stores };
  failed = λ n g. record { cleans = h.cleans; asks = h.asks; stores = h.stores };
}

module _ (c : Config) (r : Register) (q : Sequencer) where
  raised_free : NoTrims (append_stores q.spec q.lost q.lng (raised q.spec q.appends))
  raised_free = appends_free q.spec q.lost q.lng (raised q.spec q.appends)

  acting_free : (gone : Recovery → List ℕ) (y : ℕ) (b : Body) → Acting c r gone q y b (λ k m. ActsFree k.acts)
  unfolding plan
  acting_free gone y b = record {
    quiet = quiet_free _ refl refl refl;
    sealed = λ n k f i l. quiet_free _ refl refl refl;
    cleaned_own = λ n s f i h. quiet_free _ refl refl refl;
    acks = λ n p f i g h m. quiet_free _ refl refl refl;
    lost_own = λ n round g end f i h. quiet_free _ refl refl refl;
    cleaned = λ v n s f e i h. record { cleans = each_free (bodies.Clean v.epoch s) _ tt; asks = recovers_free (looks_at c r q.log) q v.epoch; stores = nothing };
    asks_more = λ w d asks f H a n u. record { cleans = nothing; asks = elim a [ inl h ↦ subst NoTrims (sym h) (next_free y d) | inr h ↦ subst NoTrims (sym h) nothing ]; stores = nothing };
    plans = λ w d loss f H p. record { cleans = nothing; asks = nothing; stores = items_free _ _ _ _ _ _ };
    looks_closed = λ w d s f H u o. record { cleans = each_free (bodies.Clean w.epoch s) _ tt; asks = recovers_free (looks_at c r q.log) q w.epoch; stores = nothing };
    looks_later = λ w d f H u o n. quiet_free _ refl refl refl;
    stores_on = λ w g f H t. quiet_free _ refl refl refl;
    closes_now = λ w g f H t. close_free c r _ w.epoch _ _ (quiet_free _ refl refl refl);
    lost_closing = λ v s short n round g end f e h i j. quiet_free _ refl refl refl;
  }

  retrying_free : (gone : Recovery → List ℕ) → Retrying c r gone q (λ k m. ActsFree k.acts)
  unfolding plan
  retrying_free gone = record {
    quiet = quiet_free _ refl refl refl;
    appends = λ f. record { cleans = nothing; asks = nothing; stores = raised_free };
    seals = λ v d f e h u. record { cleans = nothing; asks = asks_free (with_asks v.epoch d); stores = raised_free };
    plans = λ v d f e h p. record { cleans = nothing; asks = nothing; stores = both _ _ (items_free v.spec v.lost (plan v.epoch true d).loss (plan v.epoch true d).lng 0 (planned (plan v.epoch true d).items)) raised_free };
    looks_closed = λ v d s f e h u o. record { cleans = each_free (bodies.Clean v.epoch s) _ tt; asks = recovers_free (looks_at c r q.log) q v.epoch; stores = both [] _ nothing raised_free };
    looks_later = λ v d f e h u o n. record { cleans = nothing; asks = nothing; stores = both [] _ nothing raised_free };
    stores_on = λ v g f e h t. record { cleans = nothing; asks = nothing; stores = both _ _ (items_free _ _ _ _ _ _) raised_free };
    closes_now = λ v g f e h t. close_free c r _ v.epoch _ _ (record { cleans = nothing; asks = nothing; stores = both _ _ (items_free _ _ _ _ _ _) raised_free });
    closes = λ v y short f e h. close_free c r _ v.epoch y short (record { cleans = nothing; asks = nothing; stores = raised_free });
  }

pub reply_free : (c : Config) (s : State) (name : List ℕ) (q : Sequencer) → q.gone ≡ false → (y : ℕ) (b : Body) → ActsFree (reply_call c s q y b).acts
reply_free c s name q g y b = replied c s name q g y b (λ k m. ActsFree k.acts) (acting_free c s.register q (gone_of s q) y b)

pub retry_free : (c : Config) (s : State) (q : Sequencer) → q.gone ≡ false → ActsFree (retry_call c s q).acts
retry_free c s q g = retried c s q g (λ k m. ActsFree k.acts) (retrying_free c s.register q (gone_of s q))

releases_free : (old new : Sequencer) → NoTrims (if rose old new then to_each (bodies.Release (released_of new)) (nodes_of new.spec) else [])
releases_free old new = cond_both (rose old new) (to_each (bodies.Release (released_of new)) (nodes_of new.spec)) [] NoTrims (λ t. each_free (bodies.Release (released_of new)) (nodes_of new.spec) tt) (λ t. nothing)

pub acted_free : (old : Sequencer) (a : Acts) → ActsFree a → NoTrims (acted_messages old a)
acted_free old a h = both _ _ h.cleans (both _ _ (releases_free old a.sequencer) (both _ _ h.asks h.stores))

pub calms_free : (old : Sequencer) (a : Acts) → ActsFree a → NoTrims (calm_messages old a)
calms_free old a h = both _ _ h.cleans (both _ _ (releases_free old a.sequencer) (both _ _ again (both _ _ h.asks h.stores))) where
  again : NoTrims (announcements a.sequencer)
  again = cond_both (is_some a.sequencer.preempted) [] (to_each (bodies.Release (released_of a.sequencer)) (nodes_of a.sequencer.spec)) NoTrims (λ t. nothing) (λ t. each_free (bodies.Release (released_of a.sequencer)) (nodes_of a.sequencer.spec) tt)

-- ---- what a node answers ----
abbrev pub NoneTrims : Option Body → Type 0
NoneTrims None = Unit {0}
NoneTrims (Some b) = NotTrim b

stored_free : (generation s : ℕ) (d : Decision) → NoneTrims (store_answer generation s d)
stored_free generation s (Lost end) = cc
stored_free generation s (CleanAlready y) = cc
stored_free generation s (Trimmed t) = cc
stored_free generation s (Sealed by) = cc
stored_free generation s Same = cc
stored_free generation s Take = cc

page_free : (g : Log) (from bound : ℕ) (es : List Entry) → NotTrim (digest_page g from es bound)
page_free g from bound es = cc

paged_free : (generation : ℕ) (g : Log) (from : ℕ) (d : Decision) → NoneTrims (digest_answer generation g from d)
paged_free generation g from (Lost end) = cc
paged_free generation g from (CleanAlready y) = cc
paged_free generation g from (Trimmed t) = cc
paged_free generation g from (Sealed by) = cc
paged_free generation g from Same = page_free g from (numbered (epoch_of from) last_esn) (entries_within g from (numbered (epoch_of from) last_esn))
paged_free generation g from Take = page_free g from (numbered (epoch_of from) last_esn) (entries_within g from (numbered (epoch_of from) last_esn))

lost_free : (lost : Bool) (generation round from end : ℕ) (b : Body) → NotTrim b → NotTrim (lost_or lost generation round from end b)
lost_free true generation round from end b h = cc
lost_free false generation round from end b h = h

read_free : (generation : ℕ) (g : Log) (released round from : ℕ) → NotTrim (read_answer generation g released round from)
unfolding read_answer
read_free generation g released round from = cond_both (nat_le from g.trim) (bodies.ReadTrim round from g.trim) (epoch_answer generation g released round from (summary_at g (home_epoch from))) (λ b. NotTrim b) (λ t. cc) (λ t. by_summary (summary_at g (home_epoch from))) where
  by_summary : (o : Option Summary) → NotTrim (epoch_answer generation g released round from o)
  by_summary None = lost_free (is_lost g (home_epoch from)) generation round from 0 (open_answer g released round from)
      (cond_both (lets_read released from) (read_page round from false released (readable g from released)) (bodies.ReadWait round from released) (λ b. NotTrim b) (λ t. cc) (λ t. cc))
  by_summary (Some y) = cond_both (nat_le y.end (home_esn from)) (bodies.ReadEnded round from (numbered (home_epoch from) y.end) y.loss) (lost_or (is_lost g (home_epoch from)) generation round from (numbered (home_epoch from) y.end) (clean_page g round from y)) (λ b. NotTrim b)
      (λ t. cc) (λ t. lost_free (is_lost g (home_epoch from)) generation round from (numbered (home_epoch from) y.end) (clean_page g round from y) cc)

withheld_free : (n : ℕ) (set excluded : List Bool) (b : Body) → NotTrim b → NotTrim (withheld_in n set excluded b)
withheld_free n set excluded (bodies.ReadPage round from upto clean es) h = cc
withheld_free n set excluded _ h = h

pub handled_free : (n generation : ℕ) (g : Log) (l ballot released : ℕ) (b : Body) → NoneTrims ((handled_by n generation g l ballot released b).answer)
unfolding on_store on_digest_ask on_clean on_trim one_answer on_page
handled_free n generation g l ballot released (bodies.Store number lng what) = stored_free generation number (store_decision g (record { number = number; ballot = ballot; what = what }))
handled_free n generation g l ballot released (bodies.DigestAsk from) = paged_free generation g from (digest_decision g ballot from)
handled_free n generation g l ballot released (bodies.ReadAsk round from) = read_free generation g released round from
handled_free n generation g l ballot released (bodies.ReadOne round from set excluded) = withheld_free n set excluded (read_answer generation g released round from) (read_free generation g released round from)
handled_free n generation g l ballot released _ = cc

-- ---- messages ----
abbrev pub FreeOf : List Msg → Type 0
FreeOf ms = (m : Msg) → In m ms → NotTrim m.body

pub none_free : FreeOf []
none_free m i = absurd i

pub posted_free : (who : Who) (l : ℕ) (bs : List (ℕ × Body)) → NoTrims bs → FreeOf (posted who l bs)
posted_free who l [] h m i = absurd i
posted_free who l (b ∷ bs) h m (inl e) = subst (λ (x : Msg). NotTrim x.body) (sym e) (h b (inl refl))
posted_free who l (b ∷ bs) h m (inr i) = posted_free who l bs (λ x j. h x (inr j)) m i

pub answer_free : (n : ℕ) (m : Msg) (o : Option Body) → NoneTrims o → FreeOf (answer_message n m o)
answer_free n m None h x i = absurd i
answer_free n m (Some z) h x (inl e) = subst (λ (y : Msg). NotTrim y.body) (sym e) h
answer_free n m (Some z) h x (inr i) = absurd i

pub node_asks_free : (n from : ℕ) (set : List ℕ) → NoTrims (node_asks n set from)
node_asks_free n from set = each_free (bodies.ReadAsk 0 from) (without (n ∷ []) set) tt
