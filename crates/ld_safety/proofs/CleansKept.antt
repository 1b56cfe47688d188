-- Each event leaves nodes that are right about clean epochs.
use Rattle.std.proofs.Common.{◌≡◌, ◌≤◌, ◌<◌, ℕ, refl, ap, sym, subst, Bool, true, false, ◌&&◌, nat_lt, nat_le, is_none, if◌then◌else◌, List, [], ◌∷◌, Option, Some, None, arith}
use Rattle.std.proofs.lemmas.Bool.{and_parts, ltb-true}
use Rattle.ld_table.specs.Table.{find}
use Rattle.ld_lsn.specs.Number.{epoch_of}
use Rattle.ld_config.specs.declared.config.Config.{Config}
use Rattle.ld_msg.specs.declared.msg.Entry.{Entry}
use Rattle.ld_msg.specs.declared.msg.Summary.{Summary}
use Rattle.ld_msg.specs.declared.msg.Msg.{Msg}
use Rattle.ld_msg.specs.declared.msg.Body.{Body}
use Rattle.ld_msg.specs.declared.msg.Body.TheVariants as bodies
use Rattle.ld_op.specs.declared.op.Op.{Op}
use Rattle.ld_op.specs.declared.op.Op.TheVariants as ops
use Rattle.ld_op.specs.Plain.{Plain, Log, log_of}
use Rattle.ld_op.specs.Answers.{store_decision, digest_decision, taken, on_store, on_digest_ask, on_clean, clean_op, on_trim}
use Rattle.ld_op.specs.Handles.{handled_by, ballot_of}
use Rattle.ld_op.specs.Ticks.{Cleans, Nothing, on_tick, tick_with, refill_tick, lowest_unclean, missing, on_page, page_op, refill_op, lacking, is_missing, is_below_end, as_closed}
use Rattle.ld_op.specs.Ticks as ticks
use Rattle.ld_msg.specs.Register.{Register}
use Rattle.ld_msg.specs.Sequencer.{Sequencer}
use Rattle.ld_msg.specs.Reader.{Reader}
use Rattle.ld_machine.specs.Disk.{Node, load, new_node}
use Rattle.ld_machine.specs.State.{State, node_at}
use Rattle.ld_machine.specs.World.{In}
use Rattle.ld_machine.specs.Step as Step
use Rattle.ld_safety.proofs.Lists.{Some_inj, cond_both, In-map}
use Rattle.ld_safety.proofs.Members.{In_filter}
use Rattle.ld_safety.proofs.NodeSteps.{store_decided, ask_decided}
use Rattle.ld_safety.proofs.NodeCases.{NodeKeeps}
use Rattle.ld_safety.proofs.HoldSteps.{released_parts}
use Rattle.ld_safety.proofs.Cleans.{PlainClean, Keyed, OpClean, op_clean, blank_clean}
use Rattle.ld_safety.proofs.Has as has
use Rattle.ld_machine.specs.Calm.{Move}

abbrev pub AnyReleased : ℕ → ℕ → ℕ → Type 0
AnyReleased y l r = Unit {0}

abbrev pub AnyMessage : Msg → Type 0
AnyMessage m = Unit {0}

abbrev pub AnySequencer : List ℕ → Sequencer → Type 0
AnySequencer s q = Unit {0}

abbrev pub AnyReader : List ℕ → Reader → Type 0
AnyReader s d = Unit {0}

abbrev pub AnyRegister : Register → Type 0
AnyRegister r = Unit {0}

-- both plain states of a node
abbrev pub NodeClean : ℕ → Node → Type 0
NodeClean y x = has.NodeHas (λ y p. PlainClean p) AnyReleased AnyMessage AnySequencer AnyReader AnyRegister y x

-- what a look at the register closes is what it has
pub tick_found : (g : Log) (closed : List (ℕ × Summary)) (k : ℕ) (y : Summary) → on_tick g closed ≡ Cleans k y → find k closed ≡ Some y
unfolding on_tick
tick_found g closed k y h = by_found (find (lowest_unclean g) closed) refl h where
  by_missing : (b : Bool) (ns : List ℕ) → refill_tick b ns ≡ Cleans k y → ⊥
  by_missing true [] z = cc
  by_missing false [] z = cc
  by_missing b (x ∷ ns) z = cc

  by_found : (o : Option Summary) → find (lowest_unclean g) closed ≡ o → tick_with g o ≡ Cleans k y → find k closed ≡ Some y
  by_found None f q = absurd (cond_both g.lost (refill_tick (nat_lt g.lost_to (lowest_unclean g)) (missing g)) Nothing (λ t. t ≡ Cleans k y → ⊥) (λ u z. by_missing _ _ z) (λ u z. cc) q)
  by_found (Some z) f q = let a : lowest_unclean g ≡ k = cc in let b : z ≡ y = cc in subst (λ n. find n closed ≡ Some y) a (subst (λ (v : Summary). find (lowest_unclean g) closed ≡ Some v) b f)

module _ (p : Plain) (l : ℕ) where
  g : Log
  g = log_of p l

  Fine : Op → Type 0
  Fine o = OpClean p o

  store_clean : (lng : ℕ) (x : Entry) (o : Op) → taken (ops.Accept l lng x) (store_decision (log_of p l) x) ≡ Some o → Fine o
  unfolding Fine
  store_clean lng x o q = store_decided (log_of p l) x (λ k. taken (ops.Accept l lng x) k ≡ Some o → OpClean p o) (record {
    lost = λ t z. absurd cc;
    clean = λ y t h z. absurd cc;
    trimmed = λ t h z. absurd cc;
    sealed = λ t a h z. absurd cc;
    same = λ t a b h z. absurd cc;
    takes = λ t a b z. subst (OpClean p) (Some_inj z) (t, a);
  }) q

  ask_clean : (ballot from : ℕ) (o : Op) → taken (ops.Seal l ballot) (digest_decision (log_of p l) ballot from) ≡ Some o → Fine o
  unfolding Fine
  ask_clean ballot from o q = ask_decided (log_of p l) ballot from (λ k. taken (ops.Seal l ballot) k ≡ Some o → OpClean p o) (record {
    lost = λ t z. absurd cc;
    clean = λ y t h z. absurd cc;
    sealed = λ t h z. absurd cc;
    same = λ t h z. absurd cc;
    takes = λ t h z. subst (OpClean p) (Some_inj z) tt;
  }) q

  clean_clean : (k : ℕ) (y : Summary) (z : Option Summary) (o : Op) → clean_op l k y z ≡ Some o → Fine o
  unfolding Fine
  clean_clean k y None o q = subst (OpClean p) (Some_inj q) tt
  clean_clean k y (Some z) o q = absurd cc

  if_clean : (b : Bool) (z : Option Op) (o : Op) → (z ≡ Some o → Fine o) → (if b then z else None) ≡ Some o → Fine o
  if_clean true z o h q = h q
  if_clean false z o h q = absurd cc

  missing_above : (k : ℕ) → is_missing (log_of p l) k ≡ true → (log_of p l).trim < k
  unfolding is_missing
  missing_above k h = let a = and_parts ((nat_lt (log_of p l).trim k && nat_le (epoch_of k) (log_of p l).lost_to) && is_below_end k (find (epoch_of k) (log_of p l).summaries)) (is_none (find k (log_of p l).entries)) h in
      let b = and_parts (nat_lt (log_of p l).trim k && nat_le (epoch_of k) (log_of p l).lost_to) (is_below_end k (find (epoch_of k) (log_of p l).summaries)) a.0 in
      let d = and_parts (nat_lt (log_of p l).trim k) (nat_le (epoch_of k) (log_of p l).lost_to) b.0 in ltb-true _ _ d.0

  lacking_clean : (es : List Entry) (x : Entry) → In x (lacking (log_of p l) es) → ((log_of p l).trim < x.number) × ((y : Summary) → find (epoch_of x.number) (log_of p l).summaries ≡ Some y → y.ballot ≤ x.ballot)
  lacking_clean es x i = let m = In-map (as_closed (log_of p l)) x _ i in let f = In_filter _ m.0 es m.1 in
      subst (λ (z : Entry). ((log_of p l).trim < z.number) × ((y : Summary) → find (epoch_of z.number) (log_of p l).summaries ≡ Some y → y.ballot ≤ z.ballot)) (sym m.2)
      (missing_above m.0.number f.1, λ y h. (let z : ticks.ballot_of m.0.ballot (find (epoch_of m.0.number) (log_of p l).summaries) ≡ y.ballot = ap (ticks.ballot_of m.0.ballot) h in omega arith))

  refill_clean : (xs : List Entry) (o : Op) → ((x : Entry) → In x xs → ((log_of p l).trim < x.number) × ((y : Summary) → find (epoch_of x.number) (log_of p l).summaries ≡ Some y → y.ballot ≤ x.ballot)) → refill_op l xs ≡ Some o → Fine o
  unfolding Fine
  refill_clean [] o h q = absurd cc
  refill_clean (x ∷ xs) o h q = subst (OpClean p) (Some_inj q) h

  page_clean : (b : Body) (o : Op) → page_op (log_of p l) l b ≡ Some o → Fine o
  unfolding Fine
  page_clean (bodies.ReadPage round from upto clean es) o q = if_clean clean (refill_op l (lacking (log_of p l) es)) o (refill_clean (lacking (log_of p l) es) o (lacking_clean es)) q
  page_clean (bodies.ReadTrim round from t) o q = if_clean (nat_lt (log_of p l).trim t) (Some (ops.Trim l t)) o (λ z. subst (OpClean p) (Some_inj z) tt) q
  page_clean _ o q = absurd cc

  keep_clean : (b : Body) (o : Op) → (on_page (log_of p l) l b).op ≡ Some o → Fine o
  unfolding on_page
  keep_clean b o q = if_clean (log_of p l).lost (page_op (log_of p l) l b) o (page_clean b o) q

  pub message_clean : (self generation ballot released : ℕ) (b : Body) (o : Op) → (handled_by self generation (log_of p l) l ballot released b).op ≡ Some o → OpClean p o
  unfolding on_store on_digest_ask on_clean on_trim Fine
  message_clean self generation ballot released (bodies.Store k lng x) o q = store_clean lng (record { number = k; ballot = ballot; what = x }) o q
  message_clean self generation ballot released (bodies.DigestAsk k) o q = ask_clean ballot k o q
  message_clean self generation ballot released (bodies.Clean k y) o q = clean_clean k y _ o q
  message_clean self generation ballot released (bodies.Trim t) o q = if_clean (nat_lt (log_of p l).trim t) (Some (ops.Trim l t)) o (λ z. subst (OpClean p) (Some_inj z) tt) q
  message_clean self generation ballot released (bodies.ReadAsk round k) o q = absurd cc
  message_clean self generation ballot released (bodies.ReadOne round k set excluded) o q = absurd cc
  message_clean self generation ballot released b o q = keep_clean b o q

-- ---- every event ----
module _ (c : Config) (s : State) (e : Move) (H : (y : ℕ) → NodeClean y (node_at s y)) (K : (y l : ℕ) → Keyed (log_of (node_at s y).plain l)) (L : (y l : ℕ) → Keyed (log_of (load (node_at s y)).plain l)) where
  any : (y l : ℕ) → AnyReleased y l 0
  any y l = tt

  loaded : (n : ℕ) → NodeClean n (load (node_at s n))
  loaded n = has.load_has _ _ _ _ _ _ any n (node_at s n) (H n)

  released : (n l : ℕ) (b : Body) → NodeClean n (Step.releases (node_at s n) l b)
  released n l b = has.release_has _ _ _ _ _ _ n (node_at s n) l b (H n) (λ r q. tt)

  same_keys : (p q : Plain) → p ≡ q → ((l : ℕ) → Keyed (log_of q l)) → (l : ℕ) → Keyed (log_of p l)
  same_keys p q e k l = subst (λ x. Keyed (log_of x l)) (sym e) (k l)

  pub cleans_keep : NodeKeeps c s e NodeClean
  cleans_keep = record {
    all = H;
    hears = λ n m i t v. released n m.log m.body;
    keeps = λ n m o i t v q. let p = released_parts (node_at s n) m.log m.body in
        has.op_has _ _ _ _ _ _ n (Step.releases (node_at s n) m.log m.body) o (released n m.log m.body)
        (op_clean (Step.releases (node_at s n) m.log m.body).plain o (same_keys _ (node_at s n).plain p.0 (K n)) (released n m.log m.body).plain
        (subst (λ (x : Plain). OpClean x o) (sym p.0) (message_clean (node_at s n).plain m.log _ _ (ballot_of m.from) _ m.body o q)));
    loads = loaded;
    formats = λ n k b w i. has.op_has _ _ _ _ _ _ n (load (node_at s n)) _ (loaded n) (op_clean (load (node_at s n)).plain _ (L n) (loaded n).plain tt);
    cleans = λ n l k y v h. has.op_has _ _ _ _ _ _ n (node_at s n) _ (H n) (op_clean (node_at s n).plain (ops.Clean l k y) (K n) (H n).plain tt);
    rebuilds = λ n l v h. has.op_has _ _ _ _ _ _ n (node_at s n) _ (H n) (op_clean (node_at s n).plain (ops.Refilled l) (K n) (H n).plain tt);
    stops = λ n. let h = H n in record { plain = h.plain; cut = h.cut; released = h.released };
    wipes = λ n. has.new_has _ _ _ _ _ _ any n blank_clean;
    faults = λ n f. let h = H n in record { plain = h.plain; cut = h.cut; released = h.released };
  }

pub start_clean : (y : ℕ) → NodeClean y new_node
start_clean y = has.new_has _ _ _ _ _ _ (λ y l. tt) y blank_clean
