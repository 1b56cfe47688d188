-- Each page of a digest ends at the last number of its epoch, or at an entry of it.
use Rattle.std.proofs.Common.{◌≡◌, ◌∙◌, ◌⊎◌, ℕ, inl, inr, refl, ap, sym, subst, Bool, true, false, cond, nat_lt, nat_le, List, [], ◌∷◌, length, take, Option, Some, None}
use Rattle.ld_lsn.specs.Number.{epoch_of, home_epoch, home_esn, numbered, last_esn}
use Rattle.ld_config.specs.declared.config.Config.{Config}
use Rattle.ld_msg.specs.declared.msg.Entry.{Entry}
use Rattle.ld_msg.specs.declared.msg.Summary.{Summary}
use Rattle.ld_msg.specs.declared.msg.Who.{Who}
use Rattle.ld_msg.specs.declared.msg.Who.TheVariants as whos
use Rattle.ld_msg.specs.declared.msg.Msg.{Msg}
use Rattle.ld_msg.specs.declared.msg.Body.{Body}
use Rattle.ld_msg.specs.declared.msg.Body.TheVariants as bodies
use Rattle.ld_table.specs.Words.{without}
use Rattle.ld_msg.specs.Sequencer.{activated, to_each}
use Rattle.ld_op.specs.declared.op.Op.{Op}
use Rattle.ld_op.specs.Plain.{Log, log_of, summary_at, is_lost}
use Rattle.ld_op.specs.Answers.{Decision, Lost, CleanAlready, Trimmed, Sealed, Same, Take, store_decision, digest_decision, store_answer, digest_answer, digest_page, page_limit, last_number, entries_within, on_store, on_digest_ask, on_clean, on_trim, read_answer, one_answer, withheld_in, epoch_answer, lost_or, open_answer, lets_read, clean_page, read_page, readable}
use Rattle.ld_op.specs.Handles.{handled_by, answer_message}
use Rattle.ld_op.specs.Ticks.{Ticked, Cleans, Rebuilt, Asks, Nothing, on_page, node_asks}
use Rattle.ld_machine.specs.Disk.{Kept, Written, DiskFailed, Crashed, JournalFull}
use Rattle.ld_machine.specs.State.{State, Done, finish, with_node, posted, node_at}
use Rattle.ld_machine.specs.World.{In}
use Rattle.ld_machine.specs.Step as Step
use Rattle.ld_machine.specs.Calm.{Move}
use Rattle.ld_safety.proofs.Lists.{cond_both}
use Rattle.ld_safety.proofs.Traces.{Keeps, beside_kept}
use Rattle.ld_safety.proofs.Steps.{sent_by}
use Rattle.ld_safety.proofs.Events.{Cases, dispatch, refreshed}
use Rattle.ld_safety.proofs.Base.{Base, base_kept}

-- ---- a page ----

-- of a digest's page: it ends there
abbrev pub Ends : Body → Type 0
Ends (bodies.DigestPage from upto trim lng es) = (upto ≡ numbered (epoch_of from) last_esn) ⊎ ((f : Entry) × In f es × (f.number ≡ upto))
Ends b = Unit

last_in : (e : Entry) (es : List Entry) → (f : Entry) × In f (e ∷ es) × (f.number ≡ last_number (e ∷ es))
last_in e [] = (e, inl refl, refl)
last_in e (f ∷ es) = let z = last_in f es in (z.0, inr z.1, z.2)

page_ends : (g : Log) (from bound : ℕ) (es : List Entry) → bound ≡ numbered (epoch_of from) last_esn → Ends (digest_page g from es bound)
page_ends g from bound [] h = inl h
page_ends g from bound (e ∷ es) h = cond_both (nat_lt page_limit (length (e ∷ es))) (last_number (take page_limit (e ∷ es))) bound (λ u. (u ≡ numbered (epoch_of from) last_esn) ⊎ ((f : Entry) × In f (take page_limit (e ∷ es)) × (f.number ≡ u)))
    (λ t. inr (last_in e (take 63 es))) (λ t. inl h)

abbrev EndsAll : Option Body → Type 0
EndsAll None = Unit
EndsAll (Some b) = Ends b

-- ---- what a node answers ----

stored_ends : (generation s : ℕ) (d : Decision) → EndsAll (store_answer generation s d)
stored_ends generation s (Lost end) = cc
stored_ends generation s (CleanAlready y) = cc
stored_ends generation s (Trimmed t) = cc
stored_ends generation s (Sealed by) = cc
stored_ends generation s Same = cc
stored_ends generation s Take = cc

paged_ends : (generation : ℕ) (g : Log) (from : ℕ) (d : Decision) → EndsAll (digest_answer generation g from d)
paged_ends generation g from (Lost end) = cc
paged_ends generation g from (CleanAlready y) = cc
paged_ends generation g from (Trimmed t) = cc
paged_ends generation g from (Sealed by) = cc
paged_ends generation g from Same = page_ends g from (numbered (epoch_of from) last_esn) (entries_within g from (numbered (epoch_of from) last_esn)) refl
paged_ends generation g from Take = page_ends g from (numbered (epoch_of from) last_esn) (entries_within g from (numbered (epoch_of from) last_esn)) refl

lost_ends : (lost : Bool) (generation round from end : ℕ) (b : Body) → Ends b → Ends (lost_or lost generation round from end b)
lost_ends true generation round from end b h = cc
lost_ends false generation round from end b h = h

read_ends : (generation : ℕ) (g : Log) (released round from : ℕ) → Ends (read_answer generation g released round from)
unfolding read_answer
read_ends generation g released round from = cond_both (nat_le from g.trim) (bodies.ReadTrim round from g.trim) (epoch_answer generation g released round from (summary_at g (home_epoch from))) (λ b. Ends b) (λ t. cc) (λ t. by_summary (summary_at g (home_epoch from))) where
  by_summary : (o : Option Summary) → Ends (epoch_answer generation g released round from o)
  by_summary None = lost_ends (is_lost g (home_epoch from)) generation round from 0 (open_answer g released round from)
      (cond_both (lets_read released from) (read_page round from false released (readable g from released)) (bodies.ReadWait round from released) (λ b. Ends b) (λ t. cc) (λ t. cc))
  by_summary (Some y) = cond_both (nat_le y.end (home_esn from)) (bodies.ReadEnded round from (numbered (home_epoch from) y.end) y.loss) (lost_or (is_lost g (home_epoch from)) generation round from (numbered (home_epoch from) y.end) (clean_page g round from y)) (λ b. Ends b)
      (λ t. cc) (λ t. lost_ends (is_lost g (home_epoch from)) generation round from (numbered (home_epoch from) y.end) (clean_page g round from y) cc)

withheld_ends : (n : ℕ) (set excluded : List Bool) (b : Body) → Ends b → Ends (withheld_in n set excluded b)
withheld_ends n set excluded (bodies.ReadPage round from upto clean es) h = cc
withheld_ends n set excluded _ h = h

pub handled_ends : (n generation : ℕ) (g : Log) (l ballot released : ℕ) (b : Body) → EndsAll ((handled_by n generation g l ballot released b).answer)
unfolding on_store on_digest_ask on_clean on_trim one_answer on_page
handled_ends n generation g l ballot released (bodies.Store number lng what) = stored_ends generation number (store_decision g (record { number = number; ballot = ballot; what = what }))
handled_ends n generation g l ballot released (bodies.DigestAsk from) = paged_ends generation g from (digest_decision g ballot from)
handled_ends n generation g l ballot released (bodies.ReadAsk round from) = read_ends generation g released round from
handled_ends n generation g l ballot released (bodies.ReadOne round from set excluded) = withheld_ends n set excluded (read_answer generation g released round from) (read_ends generation g released round from)
handled_ends n generation g l ballot released _ = cc

-- ---- all pages under way ----

abbrev pub NodesEnd : List Msg → Type 0
NodesEnd ms = (m : Msg) → In m ms → (n : ℕ) → m.from ≡ whos.Node n → Ends m.body

none_end : NodesEnd []
none_end m i n f = absurd i

posted_by : (who : Who) (l : ℕ) (bs : List (ℕ × Body)) (m : Msg) → In m (posted who l bs) → m.from ≡ who
posted_by who l [] m i = absurd i
posted_by who l (b ∷ bs) m (inl e) = ap (λ (x : Msg). x.from) e
posted_by who l (b ∷ bs) m (inr i) = posted_by who l bs m i

sequencer_end : (k l : ℕ) (bs : List (ℕ × Body)) → NodesEnd (posted (whos.Sequencer k) l bs)
sequencer_end k l bs m i n f = let g : whos.Sequencer k ≡ whos.Node n = sym (posted_by (whos.Sequencer k) l bs m i) ∙ f in absurd cc

reader_end : (k l : ℕ) (bs : List (ℕ × Body)) → NodesEnd (posted (whos.Reader k) l bs)
reader_end k l bs m i n f = let g : whos.Reader k ≡ whos.Node n = sym (posted_by (whos.Reader k) l bs m i) ∙ f in absurd cc

answer_end : (n : ℕ) (m : Msg) (o : Option Body) → EndsAll o → NodesEnd (answer_message n m o)
answer_end n m None h x i k f = absurd i
answer_end n m (Some z) h x (inl e) k f = subst Ends (sym (ap (λ (y : Msg). y.body) e)) h
answer_end n m (Some z) h x (inr i) k f = absurd i

each_end : (n l from : ℕ) (ys : List ℕ) → NodesEnd (posted (whos.Node n) l (to_each (bodies.ReadAsk 0 from) ys))
each_end n l from [] m i k f = absurd i
each_end n l from (y ∷ ys) m (inl e) k f = subst Ends (sym (ap (λ (x : Msg). x.body) e)) cc
each_end n l from (y ∷ ys) m (inr i) k f = each_end n l from ys m i k f

asks_end : (n l from : ℕ) (set : List ℕ) → NodesEnd (posted (whos.Node n) l (node_asks n set from))
asks_end n l from set = each_end n l from (without (n ∷ []) set)

if_written : (k : Kept) (ms : List Msg) → NodesEnd ms → NodesEnd (cond (Step.is_written k) ms [])
if_written Written ms h = h
if_written DiskFailed ms h = none_end
if_written Crashed ms h = none_end
if_written JournalFull ms h = none_end

module _ (c : Config) (s : State) (e : Move) (H : NodesEnd s.network.sent) where
  abbrev Result : Done → Type 0
  Result d = NodesEnd (finish d).state.network.sent

  goes : (d : Done) → d.state.network.sent ≡ s.network.sent → NodesEnd d.sends → Result d
  unfolding finish
  goes d n f m i k fr = elim (sent_by d m i) [ inl a ↦ H m (subst (λ ms. In m ms) n a) k fr | inr a ↦ f m a k fr ]

  ends_cases : Cases c s e (λ d m. Result d)
  unfolding activated
  ends_cases = record {
    still = λ f older i. goes _ refl none_end;
    says = λ x q. goes _ refl none_end;
    node_hears = λ f older n m i t v o. handled f n m (Step.node_handles n (node_at s n) m).op (Step.node_handles n (node_at s n) m).answer
        (handled_ends n (node_at s n).plain.generation (log_of (node_at s n).plain m.log) m.log _ _ m.body);
    loads = λ n ls q b o. goes _ refl none_end;
    draw_fails = λ n b. goes _ refl none_end;
    formats = λ n r g b v i. goes _ refl (if_written _ [] none_end);
    ticks = λ n l t v i o. ticked n l t;
    stops = λ n b. goes _ refl none_end;
    wipes = λ n. goes _ refl none_end;
    faults = λ n f o. goes _ refl none_end;
    sets = λ l r x set g. goes _ refl none_end;
    swaps = λ n m l x r q i. goes _ refl none_end;
    arms = λ k done o. goes _ refl none_end;
    hears = λ f older name q m i t l v o. goes _ refl (sequencer_end _ _ _);
    retries = λ again name q v o. goes _ refl (sequencer_end _ _ _);
    appends = λ name q p v a i. goes _ refl (sequencer_end _ _ _);
    trims = λ name q t v b. goes _ refl (sequencer_end _ _ _);
    drops = λ name q v o. goes _ refl none_end;
    activates = λ name l r g n i x. goes _ refl (sequencer_end _ _ _);
    activate_fails = λ name l x g q. goes _ refl none_end;
    answers = λ f older name d m i t v o. goes _ refl (reader_end _ _ _);
    polls = λ name d v o. goes _ refl (reader_end _ _ _);
    opens = λ style name l from until o x. goes _ refl none_end;
  } where
    handled : (f : List ℕ) (n : ℕ) (m : Msg) (o : Option Op) (b : Option Body) → EndsAll b → Result (Step.handles (with_node (refreshed s f) n (Step.releases (node_at s n) m.log m.body)) n m o b)
    handled f n m None b h = goes _ refl (answer_end n m b h)
    handled f n m (Some o) b h = goes _ refl (if_written _ (answer_message n m b) (answer_end n m b h))

    ticked : (n l : ℕ) (t : Ticked) → Result (Step.ticks_as c s n l t)
    ticked n l (Cleans k y) = goes _ refl (if_written _ [] none_end)
    ticked n l Rebuilt = goes _ refl (if_written _ [] none_end)
    ticked n l (Asks from) = goes _ refl (asks_end n l _ _)
    ticked n l Nothing = goes _ refl none_end

-- in every run
pub ends_kept : (c : Config) → Keeps c (λ hs w. Base c hs w × NodesEnd w.state.network.sent)
ends_kept c = beside_kept c (Base c) (λ hs w. NodesEnd w.state.network.sent) (base_kept c) (λ m i. absurd i)
    (λ hs w e B n p. dispatch c w.state e (λ d m. NodesEnd (finish d).state.network.sent) B.0.0 (ends_cases c w.state e p))
