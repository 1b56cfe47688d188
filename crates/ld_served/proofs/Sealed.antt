-- Each seal of a node's log, and each that is told, is the epoch of a sequencer of the log that is there, dropped or not.
use Rattle.std.proofs.Common.{◌≡◌, ◌∙◌, ◌⊎◌, ◌<◌, ℕ, inl, inr, refl, ap, sym, subst, Bool, true, false, cond, if◌then◌else◌, nat_lt, List, [], ◌∷◌, Option, Some, None, arith}
use Rattle.std.specs.Option.{unwrap_or}
use Rattle.std.specs.Ordering.{nat_cmp}
use Rattle.std.specs.BTreeMap.{is_at}
use Rattle.ld_table.specs.Table.{find}
use Rattle.ld_table.specs.Named.{find_named}
use Rattle.ld_table.specs.Words.{without}
use Rattle.ld_table.proofs.Laws.{put_cases}
use Rattle.ld_ids.specs.Set.{members}
use Rattle.ld_config.specs.declared.config.Config.{Config}
use Rattle.ld_msg.specs.declared.msg.Entry.{Entry}
use Rattle.ld_msg.specs.declared.msg.Summary.{Summary}
use Rattle.ld_msg.specs.declared.msg.Who.{Who}
use Rattle.ld_msg.specs.declared.msg.Who.TheVariants as whos
use Rattle.ld_msg.specs.declared.msg.Msg.{Msg}
use Rattle.ld_msg.specs.declared.msg.Body.{Body}
use Rattle.ld_msg.specs.declared.msg.Body.TheVariants as bodies
use Rattle.ld_msg.specs.Register.{generation_of, epochs_in}
use Rattle.ld_msg.specs.Sequencer.{Sequencer, to_each}
use Rattle.ld_op.specs.declared.op.Op.{Op}
use Rattle.ld_op.specs.declared.op.Op.TheVariants as ops
use Rattle.ld_op.specs.Plain.{Plain, Log, log_of, empty_log, lost_log, lost_logs, with_log, apply}
use Rattle.ld_op.specs.Answers.{Decision, Lost, CleanAlready, Trimmed, Sealed, Same, Take, store_decision, digest_decision, taken, refusal, store_answer, digest_answer, on_store, on_digest_ask, on_clean, on_trim, clean_op, read_answer, withheld_in}
use Rattle.ld_op.specs.Handles.{handled_by, answer_message, ballot_of}
use Rattle.ld_op.specs.Ticks.{Ticked, Cleans, Rebuilt, Asks, Nothing, on_page, page_op, refill_op, lacking}
use Rattle.ld_machine.specs.Config.{all_nodes}
use Rattle.ld_machine.specs.Disk.{Node, new_node, keep_op, load, Kept, Written, DiskFailed, Crashed, JournalFull}
use Rattle.ld_machine.specs.State.{State, Done, finish, new_nodes, node_at, with_node, posted}
use Rattle.ld_machine.specs.Facts.{Happened}
use Rattle.ld_machine.specs.World.{World, In, MayHold}
use Rattle.ld_machine.specs.Step as Step
use Rattle.ld_machine.specs.Calm.{Move, moves, moved}
use Rattle.ld_safety.proofs.Lists.{Some_inj, not_none, only}
use Rattle.ld_safety.proofs.Traces.{Keeps, beside_kept}
use Rattle.ld_safety.proofs.Steps.{sent_by}
use Rattle.ld_safety.proofs.Events.{Cases, NamesOnce, dispatch, refreshed}
use Rattle.ld_safety.proofs.NodeSteps.{store_decided, ask_decided, read_answered}
use Rattle.ld_safety.proofs.NodeCases.{NodeKeeps, node_cases}
use Rattle.ld_safety.proofs.LostNodes.{kept_from, loaded_from, released_from}
use Rattle.ld_safety.proofs.Withheld.{of_one}
use Rattle.ld_safety.proofs.Sent.{network_same}
use Rattle.ld_safety.proofs.Base.{Base, counts_of}
use Rattle.ld_served.proofs.Actors.{Here, AllHere, here_kept, here_stays, posted_by}

-- ---- ops ----

-- what a seal is, of a log and a ballot; no seal is one
module _ (P : ℕ → ℕ → Type 0) (zero : (l : ℕ) → P l 0) where
  abbrev pub SealsOf : Plain → Type 0
  SealsOf p = (l : ℕ) → P l (log_of p l).sealed

  abbrev pub SealKept : Node → Type 0
  SealKept x = (p : Plain) → MayHold x p → SealsOf p

  abbrev SealsOp : Op → Type 0
  SealsOp (ops.Accept l lng e) = P l e.ballot
  SealsOp (ops.Seal l b) = P l b
  SealsOp _ = Unit {0}

  with_seal : (p : Plain) (l : ℕ) (g : Log) → SealsOf p → P l g.sealed → SealsOf (with_log p l g)
  with_seal p l g F h k = elim (put_cases k l g p.logs) [
    | inl a ↦ subst (λ (o : Option Log). P k (unwrap_or o empty_log).sealed) (sym a.1) (subst (λ j. P j g.sealed) (sym a.0) h)
    | inr a ↦ subst (λ (o : Option Log). P k (unwrap_or o empty_log).sealed) (sym a.1) (F k)
  ]

  unsealed : (ds : List (ℕ × ℕ)) (l : ℕ) → (unwrap_or (find l (lost_logs ds)) empty_log).sealed ≡ 0
  unfolding find
  unsealed [] l = refl
  unsealed (d ∷ ds) l = by_key (is_at (nat_cmp l) d.0) (find l (lost_logs ds)) (unsealed ds l) where
    by_key : (b : Bool) (o : Option Log) → (unwrap_or o empty_log).sealed ≡ 0 → (unwrap_or (cond b (Some (lost_log d.1)) o) empty_log).sealed ≡ 0
    by_key true o h = refl
    by_key false o h = h

  op_seals : (p : Plain) (o : Op) → SealsOp o → SealsOf p → SealsOf (apply p o)
  unfolding apply
  op_seals p (ops.Format generation epochs) h F = λ l. subst (P l) (sym (unsealed epochs l)) (zero l)
  op_seals p (ops.Accept l lng e) h F = with_seal p l _ F h
  op_seals p (ops.Seal l b) h F = with_seal p l _ F h
  op_seals p (ops.Clean l epoch y) h F = with_seal p l _ F (F l)
  op_seals p (ops.Trim l t) h F = with_seal p l _ F (F l)
  op_seals p (ops.Refill l es) h F = with_seal p l _ F (F l)
  op_seals p (ops.Refilled l) h F = with_seal p l _ F (F l)

  pub kept_seals : (x : Node) (o : Op) → SealsOp o → SealKept x → SealKept (keep_op x o)
  kept_seals x o f h p q = elim (kept_from x o p q).from [ inl a ↦ h p a | inr a ↦ subst SealsOf (sym a) (op_seals x.plain o f (h x.plain (inl refl))) ]

  pub blank_seals : SealKept new_node
  unfolding find
  blank_seals p (inl q) = subst SealsOf (sym q) (λ l. zero l)
  blank_seals p (inr q) = absurd (not_none q.1)

  -- the op of a message seals by its sender's ballot, or doesn't
  taken_seals : (o q : Op) (d : Decision) → SealsOp o → taken o d ≡ Some q → SealsOp q
  taken_seals o q Take h e = subst SealsOp (Some_inj e) h
  taken_seals o q (Lost end) h e = absurd (not_none e)
  taken_seals o q (CleanAlready y) h e = absurd (not_none e)
  taken_seals o q (Trimmed t) h e = absurd (not_none e)
  taken_seals o q (Sealed b) h e = absurd (not_none e)
  taken_seals o q Same h e = absurd (not_none e)

  if_seals : (b : Bool) (o : Option Op) (q : Op) → (o ≡ Some q → SealsOp q) → (if b then o else None) ≡ Some q → SealsOp q
  if_seals true o q h e = h e
  if_seals false o q h e = absurd (not_none e)

  clean_seals : (l e : ℕ) (y : Summary) (o : Option Summary) (q : Op) → clean_op l e y o ≡ Some q → SealsOp q
  clean_seals l e y None q h = subst SealsOp (Some_inj h) tt
  clean_seals l e y (Some z) q h = absurd (not_none h)

  refill_seals : (l : ℕ) (es : List Entry) (q : Op) → refill_op l es ≡ Some q → SealsOp q
  refill_seals l [] q h = absurd (not_none h)
  refill_seals l (e ∷ es) q h = subst SealsOp (Some_inj h) tt

  page_seals : (g : Log) (l : ℕ) (b : Body) (q : Op) → page_op g l b ≡ Some q → SealsOp q
  page_seals g l (bodies.ReadPage round from upto clean es) q h = if_seals clean (refill_op l (lacking g es)) q (refill_seals l (lacking g es) q) h
  page_seals g l (bodies.ReadTrim round from t) q h = if_seals (nat_lt g.trim t) (Some (ops.Trim l t)) q (λ e. subst SealsOp (Some_inj e) tt) h
  page_seals g l _ q h = absurd (not_none h)

  on_page_seals : (g : Log) (l : ℕ) (b : Body) (q : Op) → (on_page g l b).op ≡ Some q → SealsOp q
  unfolding on_page
  on_page_seals g l b q h = if_seals g.lost (page_op g l b) q (page_seals g l b q) h

  pub handled_seals : (self generation : ℕ) (g : Log) (l ballot released : ℕ) (b : Body) (q : Op) → P l ballot → (handled_by self generation g l ballot released b).op ≡ Some q → SealsOp q
  unfolding on_store on_digest_ask on_clean on_trim
  handled_seals self generation g l ballot released (bodies.Store n lng x) q u h = taken_seals (ops.Accept l lng (record { number = n; ballot = ballot; what = x })) q (store_decision g (record { number = n; ballot = ballot; what = x })) u h
  handled_seals self generation g l ballot released (bodies.DigestAsk from) q u h = taken_seals (ops.Seal l ballot) q (digest_decision g ballot from) u h
  handled_seals self generation g l ballot released (bodies.Clean e y) q u h = clean_seals l e y _ q h
  handled_seals self generation g l ballot released (bodies.Trim t) q u h = if_seals (nat_lt g.trim t) (Some (ops.Trim l t)) q (λ e. subst SealsOp (Some_inj e) tt) h
  handled_seals self generation g l ballot released (bodies.ReadAsk round from) q u h = absurd (not_none h)
  handled_seals self generation g l ballot released (bodies.ReadOne round from set excluded) q u h = absurd (not_none h)
  handled_seals self generation g l ballot released b q u h = on_page_seals g l b q h

-- ---- what a node tells ----

abbrev SaysNone : Body → Type 0
SaysNone (bodies.SealedHere n k) = ⊥
SaysNone _ = Unit {0}

-- an answer that tells a seal tells the log's
abbrev TellsSeal : ℕ → Body → Type 0
TellsSeal z b = (n k : ℕ) → b ≡ bodies.SealedHere n k → (k ≡ z) × (0 < k)

tells_none : (z : ℕ) (b : Body) → SaysNone b → TellsSeal z b
tells_none z b h n k e = absurd (subst SaysNone e h)

refused_tells : (generation s z : ℕ) (x : Body) (d : Decision) → ((v : ℕ) → d ≡ Sealed v → (v ≡ z) × (0 < v)) → refusal generation s d ≡ Some x → TellsSeal z x
refused_tells generation s z x (Lost end) h q = subst (TellsSeal z) (Some_inj q) (tells_none z _ tt)
refused_tells generation s z x (CleanAlready y) h q = subst (TellsSeal z) (Some_inj q) (tells_none z _ tt)
refused_tells generation s z x (Trimmed t) h q = subst (TellsSeal z) (Some_inj q) (tells_none z _ tt)
refused_tells generation s z x (Sealed v) h q = subst (TellsSeal z) (Some_inj q) (λ n k e. (let w : v ≡ k = cc in subst (λ a. (a ≡ z) × (0 < a)) w (h v refl)))
refused_tells generation s z x Same h q = absurd (not_none q)
refused_tells generation s z x Take h q = absurd (not_none q)

store_tells : (generation s z : ℕ) (x : Body) (d : Decision) → ((v : ℕ) → d ≡ Sealed v → (v ≡ z) × (0 < v)) → store_answer generation s d ≡ Some x → TellsSeal z x
store_tells generation s z x (Lost end) h q = refused_tells generation s z x (Lost end) h q
store_tells generation s z x (CleanAlready y) h q = refused_tells generation s z x (CleanAlready y) h q
store_tells generation s z x (Trimmed t) h q = refused_tells generation s z x (Trimmed t) h q
store_tells generation s z x (Sealed v) h q = refused_tells generation s z x (Sealed v) h q
store_tells generation s z x Same h q = subst (TellsSeal z) (Some_inj q) (tells_none z _ tt)
store_tells generation s z x Take h q = subst (TellsSeal z) (Some_inj q) (tells_none z _ tt)

digest_tells : (generation s z : ℕ) (g : Log) (x : Body) (d : Decision) → ((v : ℕ) → d ≡ Sealed v → (v ≡ z) × (0 < v)) → digest_answer generation g s d ≡ Some x → TellsSeal z x
digest_tells generation s z g x (Lost end) h q = refused_tells generation s z x (Lost end) h q
digest_tells generation s z g x (CleanAlready y) h q = refused_tells generation s z x (CleanAlready y) h q
digest_tells generation s z g x (Trimmed t) h q = refused_tells generation s z x (Trimmed t) h q
digest_tells generation s z g x (Sealed v) h q = refused_tells generation s z x (Sealed v) h q
digest_tells generation s z g x Same h q = subst (TellsSeal z) (Some_inj q) (tells_none z _ tt)
digest_tells generation s z g x Take h q = subst (TellsSeal z) (Some_inj q) (tells_none z _ tt)

sealed_store : (g : Log) (e : Entry) (v : ℕ) → store_decision g e ≡ Sealed v → (v ≡ g.sealed) × (0 < v)
sealed_store g e v = store_decided g e (λ d. d ≡ Sealed v → (v ≡ g.sealed) × (0 < v)) (record {
  lost = λ t q. absurd cc;
  clean = λ y t k q. absurd cc;
  trimmed = λ s k q. absurd cc;
  sealed = λ s a k q. (let z : g.sealed ≡ v = cc in (sym z, omega arith));
  same = λ s a b k q. absurd cc;
  takes = λ s a b q. absurd cc;
})

sealed_ask : (g : Log) (ballot from v : ℕ) → digest_decision g ballot from ≡ Sealed v → (v ≡ g.sealed) × (0 < v)
sealed_ask g ballot from v = ask_decided g ballot from (λ d. d ≡ Sealed v → (v ≡ g.sealed) × (0 < v)) (record {
  lost = λ t q. absurd cc;
  clean = λ y t k q. absurd cc;
  sealed = λ s k q. (let z : g.sealed ≡ v = cc in (sym z, omega arith));
  same = λ s k q. absurd cc;
  takes = λ s k q. absurd cc;
})

read_none : (generation : ℕ) (g : Log) (released round from : ℕ) → SaysNone (read_answer generation g released round from)
read_none generation g released round from = read_answered generation g released round from SaysNone (record { trimmed = λ h. tt; ended = λ y a h k. tt; lost_clean = λ y a h k t. tt; lost = λ a h t. tt; clean = λ y a h k t. tt; open_page = λ a h t u. tt; waits = λ a. tt })

one_none : (self : ℕ) (set excluded : List Bool) (b : Body) → SaysNone b → SaysNone (withheld_in self set excluded b)
one_none self set excluded (bodies.ReadPage round from upto clean es) h = tt
one_none self set excluded _ h = h

-- what a node answers tells the log's seal, or none
pub answer_tells : (self generation : ℕ) (g : Log) (l ballot released : ℕ) (b x : Body) → (handled_by self generation g l ballot released b).answer ≡ Some x → TellsSeal g.sealed x
unfolding on_store on_digest_ask on_clean on_trim on_page
answer_tells self generation g l ballot released (bodies.Store n lng w) x h = store_tells generation n g.sealed x (store_decision g (record { number = n; ballot = ballot; what = w })) (sealed_store g (record { number = n; ballot = ballot; what = w })) h
answer_tells self generation g l ballot released (bodies.DigestAsk from) x h = digest_tells generation from g.sealed g x (digest_decision g ballot from) (sealed_ask g ballot from) h
answer_tells self generation g l ballot released (bodies.Clean e y) x h = absurd (not_none h)
answer_tells self generation g l ballot released (bodies.Trim t) x h = absurd (not_none h)
answer_tells self generation g l ballot released (bodies.ReadAsk round from) x h = subst (TellsSeal g.sealed) (Some_inj h) (tells_none g.sealed _ (read_none generation g released round from))
answer_tells self generation g l ballot released (bodies.ReadOne round from set excluded) x h = subst (TellsSeal g.sealed) (Some_inj h) (tells_none g.sealed _ (of_one self set excluded SaysNone generation g released round from (λ b k. one_none self set excluded b k) (read_none generation g released round from)))
answer_tells self generation g l ballot released _ x h = absurd (not_none h)

-- ---- every step ----

abbrev pub SealedBy : List (List ℕ × Sequencer) → ℕ → ℕ → Type 0
SealedBy qs l k = (k ≡ 0) ⊎ Here qs l k

-- no seal is of no one
pub none_sealed : (qs : List (List ℕ × Sequencer)) (l : ℕ) → SealedBy qs l 0
none_sealed qs l = inl refl

abbrev pub SealFine : List (List ℕ × Sequencer) → Node → Type 0
SealFine qs x = SealKept (SealedBy qs) (none_sealed qs) x

-- a node tells the epoch of a sequencer that is there
abbrev pub SealsTold : List (List ℕ × Sequencer) → List Msg → Type 0
SealsTold qs ms = (m : Msg) → In m ms → (y : ℕ) → m.from ≡ whos.Node y → (n k : ℕ) → m.body ≡ bodies.SealedHere n k → Here qs m.log k

abbrev pub AllSealed : State → Type 0
AllSealed s = ((y : ℕ) → SealFine s.sequencers (node_at s y)) × SealsTold s.sequencers s.network.sent

sealed_on : (qs rs : List (List ℕ × Sequencer)) → ((l b : ℕ) → Here qs l b → Here rs l b) → (x : Node) → SealFine qs x → SealFine rs x
sealed_on qs rs f x h p i l = elim (h p i l) [ inl z ↦ inl z | inr z ↦ inr (f l _ z) ]

module _ (c : Config) (s : State) (e : Move) (H : AllHere s.sequencers s.network.sent) (S : AllSealed s) where
  sealing : ℕ → ℕ → Type 0
  sealing l k = SealedBy s.sequencers l k

  ballot_here : (m : Msg) → In m s.network.sent → (w : Who) → m.from ≡ w → SealedBy s.sequencers m.log (ballot_of w)
  ballot_here m i (whos.Sequencer b) f = inr (H m i b f)
  ballot_here m i (whos.Node y) f = inl refl
  ballot_here m i (whos.Reader r) f = inl refl

  seals_keep : NodeKeeps c s e (λ y x. SealFine s.sequencers x)
  seals_keep = record {
    all = S.0;
    hears = λ n m i t u p q. S.0 n p (released_from (node_at s n) m.log m.body p q);
    keeps = λ n m o i t u q. kept_seals (SealedBy s.sequencers) (none_sealed s.sequencers) (Step.releases (node_at s n) m.log m.body) o
        (handled_seals (SealedBy s.sequencers) (none_sealed s.sequencers) n (node_at s n).plain.generation (log_of (node_at s n).plain m.log) m.log (ballot_of m.from) (Step.released_at (node_at s n) m.log) m.body o (ballot_here m i m.from refl) q)
        (λ p r. S.0 n p (released_from (node_at s n) m.log m.body p r));
    loads = λ n p q. S.0 n p (loaded_from (node_at s n) p q);
    formats = λ n r b w i. kept_seals (SealedBy s.sequencers) (none_sealed s.sequencers) (load (node_at s n)) (ops.Format (generation_of r n) (epochs_in r.logs)) tt (λ p q. S.0 n p (loaded_from (node_at s n) p q));
    cleans = λ n l k y u q. kept_seals (SealedBy s.sequencers) (none_sealed s.sequencers) (node_at s n) (ops.Clean l k y) tt (S.0 n);
    rebuilds = λ n l u q. kept_seals (SealedBy s.sequencers) (none_sealed s.sequencers) (node_at s n) (ops.Refilled l) tt (S.0 n);
    stops = λ n. S.0 n;
    wipes = λ n. blank_seals (SealedBy s.sequencers) (none_sealed s.sequencers);
    faults = λ n f. S.0 n;
  }

  -- ---- what is told ----
  abbrev Told : Done → Type 0
  Told d = SealsTold s.sequencers d.sends

  no_told : SealsTold s.sequencers []
  no_told m i y f n k b = absurd i

  of_sequencer : (b l : ℕ) (bs : List (ℕ × Body)) → SealsTold s.sequencers (posted (whos.Sequencer b) l bs)
  of_sequencer b l bs m i y f n k q = absurd (let z : whos.Sequencer b ≡ whos.Node y = sym (posted_by (whos.Sequencer b) l bs m i).0 ∙ f in cc)

  of_reader : (r l : ℕ) (bs : List (ℕ × Body)) → SealsTold s.sequencers (posted (whos.Reader r) l bs)
  of_reader r l bs m i y f n k q = absurd (let z : whos.Reader r ≡ whos.Node y = sym (posted_by (whos.Reader r) l bs m i).0 ∙ f in cc)

  asks_told : (n l from : ℕ) (ys : List ℕ) → SealsTold s.sequencers (posted (whos.Node n) l (to_each (bodies.ReadAsk 0 from) ys))
  asks_told n l from [] m i y f a k q = absurd i
  asks_told n l from (z ∷ ys) m (inl e) y f a k q = absurd (let w : bodies.ReadAsk 0 from ≡ bodies.SealedHere a k = sym (ap (λ (x : Msg). x.body) e) ∙ q in cc)
  asks_told n l from (z ∷ ys) m (inr i) y f a k q = asks_told n l from ys m i y f a k q

  answer_told : (n : ℕ) (m : Msg) (b : Option Body) → (Step.node_handles n (node_at s n) m).answer ≡ b → SealsTold s.sequencers (answer_message n m b)
  answer_told n m None q x i y f a k z = absurd i
  answer_told n m (Some b) q x i y f a k z =
      let g : Log = log_of (node_at s n).plain m.log in
      let is : x ≡ record { from = whos.Node n; to = m.from; log = m.log; body = b } = only x _ i in
      let body : b ≡ bodies.SealedHere a k = sym (ap (λ (v : Msg). v.body) is) ∙ z in
      let t : (k ≡ g.sealed) × (0 < k) = answer_tells n (node_at s n).plain.generation g m.log (ballot_of m.from) (Step.released_at (node_at s n) m.log) m.body b q a k body in
      subst (λ j. Here s.sequencers j k) (sym (ap (λ (v : Msg). v.log) is)) (elim (S.0 n (node_at s n).plain (inl refl) m.log) [
        | inl w ↦ absurd (let u = t.0 in let v = t.1 in omega arith)
        | inr w ↦ subst (Here s.sequencers m.log) (sym t.0) w
      ])

  if_written : (k : Kept) (ms : List Msg) → SealsTold s.sequencers ms → SealsTold s.sequencers (cond (Step.is_written k) ms [])
  if_written Written ms h = h
  if_written DiskFailed ms h = no_told
  if_written Crashed ms h = no_told
  if_written JournalFull ms h = no_told

  told_cases : Cases c s e (λ d m. Told d)
  told_cases = record {
    still = λ f older i. no_told;
    says = λ x q. no_told;
    node_hears = λ f older n m i t v o. handled f n m (Step.node_handles n (node_at s n) m).op (Step.node_handles n (node_at s n) m).answer (answer_told n m (Step.node_handles n (node_at s n) m).answer refl);
    loads = λ n ls q b o. no_told;
    draw_fails = λ n b. no_told;
    formats = λ n r g b v i. if_written _ [] no_told;
    ticks = λ n l t v i o. ticked n l t;
    stops = λ n b. no_told;
    wipes = λ n. no_told;
    faults = λ n f o. no_told;
    sets = λ l r x set g. no_told;
    swaps = λ n m l x r q i. no_told;
    arms = λ k done o. no_told;
    hears = λ f older name q m i t l v o. of_sequencer q.epoch q.log _;
    retries = λ again name q v o. of_sequencer q.epoch q.log _;
    appends = λ name q p v a i. of_sequencer q.epoch q.log _;
    trims = λ name q t v b. of_sequencer q.epoch q.log _;
    drops = λ name q v o. no_told;
    activates = λ name l r g n i x. of_sequencer _ l _;
    activate_fails = λ name l x g q. no_told;
    answers = λ f older name d m i t v o. of_reader _ _ _;
    polls = λ name d v o. of_reader d.number d.log _;
    opens = λ style name l from until o x. no_told;
  } where
    handled : (f : List ℕ) (n : ℕ) (m : Msg) (o : Option Op) (b : Option Body) → SealsTold s.sequencers (answer_message n m b) → Told (Step.handles (with_node (refreshed s f) n (Step.releases (node_at s n) m.log m.body)) n m o b)
    handled f n m None b h = h
    handled f n m (Some o) b h = if_written _ (answer_message n m b) h

    ticked : (n l : ℕ) (t : Ticked) → Told (Step.ticks_as c s n l t)
    ticked n l (Cleans k y) = if_written _ [] no_told
    ticked n l Rebuilt = if_written _ [] no_told
    ticked n l (Asks from) = asks_told n l from (without (n ∷ []) (all_nodes c))
    ticked n l Nothing = no_told

  pub sealed_step : NamesOnce s → ((l b : ℕ) → Here s.sequencers l b → Here (moved c s e).state.sequencers l b) → AllSealed (moved c s e).state
  unfolding finish
  sealed_step N on = (
    λ y. sealed_on s.sequencers (moved c s e).state.sequencers on (node_at (moved c s e).state y) (dispatch c s e (λ d m. (z : ℕ) → SealFine s.sequencers (node_at d.state z)) N (node_cases c s e (λ z x. SealFine s.sequencers x) seals_keep) y),
    λ m i y f n k q. on m.log k (elim (sent_by (moves c s e) m i) [ inl a ↦ S.1 m (before m a) y f n k q | inr a ↦ dispatch c s e (λ d m. Told d) N told_cases m a y f n k q ]),
  ) where
    before : (m : Msg) → In m (moves c s e).state.network.sent → In m s.network.sent
    before m i = subst (In m) (network_same c s e N) i

-- at the start all nodes are blank
start_node : (y : ℕ) (ns : List ℕ) → unwrap_or (find y (new_nodes ns)) new_node ≡ new_node
unfolding find
start_node y [] = refl
start_node y (n ∷ ns) = start_or (is_at (nat_cmp y) n) (find y (new_nodes ns)) (start_node y ns) where
  start_or : (b : Bool) (o : Option Node) → unwrap_or o new_node ≡ new_node → unwrap_or (cond b (Some new_node) o) new_node ≡ new_node
  start_or true o i = refl
  start_or false o i = i

abbrev pub Sealing : Config → List Happened → World → Type 0
Sealing c hs w = (Base c hs w × AllHere w.state.sequencers w.state.network.sent) × AllSealed w.state

-- in every run
pub sealed_kept : (c : Config) → Keeps c (Sealing c)
unfolding find_named
sealed_kept c = beside_kept c (λ hs w. Base c hs w × AllHere w.state.sequencers w.state.network.sent) (λ hs w. AllSealed w.state) (here_kept c) ((λ y. subst (SealFine []) (sym (start_node y (members c.nodes))) (blank_seals (SealedBy []) (none_sealed []))), λ m i y f n k q. absurd i)
    (λ hs w e B n p. sealed_step c w.state e B.1 p B.0.0.0 (here_stays c w.state e (λ name q f. (counts_of c hs w B.0 name q f).row) B.0.0.0))
