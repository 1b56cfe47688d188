-- A delivery to a node and a tick make the measure less, where nodes get no fewer clean epochs.
use Rattle.std.proofs.Common.{◌≡◌, ◌∙◌, ◌≤◌, ℕ, ◌+◌, ◌*◌, inl, inr, refl, ap, sym, subst, Bool, true, false, not, ◌&&◌, ◌==◌, if◌then◌else◌, nat_le, List, [], ◌∷◌, length, Option, Some, None, is_some, arith}
use Rattle.std.proofs.lemmas.Bool.{cases_Bool, cases_lt, eqb-true}
use Rattle.std.specs.Option.{unwrap_or}
use Rattle.ld_table.specs.Table.{find}
use Rattle.ld_table.specs.Words.{is_in, without}
use Rattle.ld_config.specs.declared.config.Config.{Config}
use Rattle.ld_msg.specs.declared.msg.Summary.{Summary}
use Rattle.ld_msg.specs.declared.msg.Who.TheVariants as whos
use Rattle.ld_msg.specs.declared.msg.Msg.{Msg}
use Rattle.ld_msg.specs.declared.msg.Body.{Body}
use Rattle.ld_msg.specs.declared.msg.Body.TheVariants as bodies
use Rattle.ld_msg.specs.Network.{message, mark, send_all}
use Rattle.ld_op.specs.declared.op.Op.{Op}
use Rattle.ld_lsn.specs.Number.{numbered, home_epoch, home_esn}
use Rattle.ld_op.specs.Plain.{Log, log_of, summary_at, epoch_zero, is_lost}
use Rattle.ld_op.specs.Answers.{Decision, Lost, CleanAlready, Trimmed, Sealed, Same, Take, store_decision, digest_decision, store_answer, digest_answer, on_store, on_digest_ask, on_clean, on_trim, read_answer, one_answer, withheld_in, epoch_answer, lost_or, open_answer, lets_read, clean_page, read_page, readable}
use Rattle.ld_op.specs.Handles.{handled_by, answer_message, ballot_of}
use Rattle.ld_op.specs.Ticks.{gap_from, lowest_unclean, on_page, node_asks}
use Rattle.ld_op.proofs.Gaps.{gap_clean}
use Rattle.ld_machine.specs.Disk.{Node, new_node, is_up, keep_end}
use Rattle.ld_machine.specs.Config.{has_log}
use Rattle.ld_msg.specs.Reader.{Reader}
use Rattle.ld_machine.specs.State.{State, finish, posted, node_at, with_node, unchanged}
use Rattle.ld_machine.specs.Step as Step
use Rattle.ld_machine.specs.World.{In}
use Rattle.ld_safety.proofs.Lists.{cond_both}
use Rattle.ld_safety.proofs.LostFull.{FullLog, unclean_none}
use Rattle.ld_machine.specs.Calm.{Left, Announces, Settles, Ticks, Reads, Drains, Again}
use Rattle.ld_calm.proofs.Lefts.{filtered}
use Rattle.ld_calm.proofs.Sends.{each}
use Rattle.ld_calm.proofs.Weights.{weight, weight_of, weights, new_weight, InPlace, mark_in_place, sent_weight, mark_weight}
use Rattle.ld_calm.proofs.Measure.{Ground, part_cost, parts_cost, measure}
use Rattle.ld_calm.proofs.Deliveries.{posted_most, quiet_less}

-- ---- answers are light ----

abbrev answer_weight : Option Body → ℕ
answer_weight None = 0
answer_weight (Some b) = weight b

stored_light : (generation s : ℕ) (d : Decision) → answer_weight (store_answer generation s d) ≤ 1
stored_light generation s (Lost end) = omega arith
stored_light generation s (CleanAlready y) = omega arith
stored_light generation s (Trimmed t) = omega arith
stored_light generation s (Sealed by) = omega arith
stored_light generation s Same = omega arith
stored_light generation s Take = omega arith

paged_light : (generation : ℕ) (g : Log) (from : ℕ) (d : Decision) → answer_weight (digest_answer generation g from d) ≤ 1
paged_light generation g from (Lost end) = omega arith
paged_light generation g from (CleanAlready y) = omega arith
paged_light generation g from (Trimmed t) = omega arith
paged_light generation g from (Sealed by) = omega arith
paged_light generation g from Same = omega arith
paged_light generation g from Take = omega arith

lost_light : (lost : Bool) (generation round from end : ℕ) (b : Body) → weight b ≤ 1 → weight (lost_or lost generation round from end b) ≤ 1
lost_light true generation round from end b h = omega arith
lost_light false generation round from end b h = h

read_light : (generation : ℕ) (g : Log) (released round from : ℕ) → weight (read_answer generation g released round from) ≤ 1
unfolding read_answer
read_light generation g released round from = cond_both (nat_le from g.trim) (bodies.ReadTrim round from g.trim) (epoch_answer generation g released round from (summary_at g (home_epoch from))) (λ b. weight b ≤ 1) (λ t. omega arith) (λ t. by_summary (summary_at g (home_epoch from))) where
  by_summary : (o : Option Summary) → weight (epoch_answer generation g released round from o) ≤ 1
  by_summary None = lost_light (is_lost g (home_epoch from)) generation round from 0 (open_answer g released round from)
      (cond_both (lets_read released from) (read_page round from false released (readable g from released)) (bodies.ReadWait round from released) (λ b. weight b ≤ 1) (λ t. omega arith) (λ t. omega arith))
  by_summary (Some y) = cond_both (nat_le y.end (home_esn from)) (bodies.ReadEnded round from (numbered (home_epoch from) y.end) y.loss) (lost_or (is_lost g (home_epoch from)) generation round from (numbered (home_epoch from) y.end) (clean_page g round from y)) (λ b. weight b ≤ 1)
      (λ t. omega arith) (λ t. lost_light (is_lost g (home_epoch from)) generation round from (numbered (home_epoch from) y.end) (clean_page g round from y) (omega arith))

withheld_light : (n : ℕ) (set excluded : List Bool) (b : Body) → weight b ≤ 1 → weight (withheld_in n set excluded b) ≤ 1
withheld_light n set excluded (bodies.ReadPage round from upto clean es) h = omega arith
withheld_light n set excluded _ h = h

-- what is answered weighs less than what it answers
pub handled_light : (n generation : ℕ) (g : Log) (l ballot released : ℕ) (b : Body) → answer_weight (handled_by n generation g l ballot released b).answer + 1 ≤ weight b
unfolding on_store on_digest_ask on_clean on_trim one_answer on_page
handled_light n generation g l ballot released (bodies.Store number lng what) = let z = stored_light generation number (store_decision g (record { number = number; ballot = ballot; what = what })) in omega arith
handled_light n generation g l ballot released (bodies.DigestAsk from) = let z = paged_light generation g from (digest_decision g ballot from) in omega arith
handled_light n generation g l ballot released (bodies.ReadAsk round from) = let z = read_light generation g released round from in omega arith
handled_light n generation g l ballot released (bodies.ReadOne round from set excluded) = let z = withheld_light n set excluded (read_answer generation g released round from) (read_light generation g released round from) in omega arith
handled_light n generation g l ballot released _ = omega arith

answer_weighs : (n : ℕ) (m : Msg) (o : Option Body) → weights (answer_message n m o) ≡ answer_weight o
answer_weighs n m None = refl
answer_weighs n m (Some b) = omega arith

-- ---- clean epochs ----

-- no node has fewer of them at its start
abbrev pub Cleaner : List (ℕ × Node) → List (ℕ × Node) → Type 0
Cleaner ns ms = (y l : ℕ) → lowest_unclean (log_of (unwrap_or (find y ns) new_node).plain l) ≤ lowest_unclean (log_of (unwrap_or (find y ms) new_node).plain l)

pub gap_low : (e : ℕ) (ss : List (ℕ × Summary)) → e ≤ gap_from e ss
gap_low e [] = omega arith
gap_low e (s ∷ ss) = let ih : e + 1 ≤ gap_from (e + 1) ss = gap_low (e + 1) ss in cond_both (s.0 == e) (gap_from (e + 1) ss) e (λ k. e ≤ k) (λ t. omega arith) (λ t. omega arith)

in_summaries : (k : ℕ) (h : Log) → 1 ≤ k → (if k == 0 then Some epoch_zero else find k h.summaries) ≡ None → find k h.summaries ≡ None
in_summaries k h l e = elim (cases_Bool (k == 0)) [ inl t ↦ absurd (let z = eqb-true k 0 t in omega arith) | inr t ↦ sym (ap (λ b. if b then Some epoch_zero else find k h.summaries) t) ∙ e ]

-- the lowest epoch that isn't clean has no summary
pub unclean_missing : (h : Log) → FullLog h → find (lowest_unclean h) h.summaries ≡ None
unfolding summary_at
unclean_missing h F = in_summaries (lowest_unclean h) h (gap_low 1 h.summaries) (unclean_none h F)

-- a log that keeps its summaries
pub lowest_up : (g h : Log) → FullLog h → ((k : ℕ) → is_some (find k g.summaries) ≡ true → is_some (find k h.summaries) ≡ true) → lowest_unclean g ≤ lowest_unclean h
lowest_up g h F keep = elim (cases_lt (lowest_unclean h) (lowest_unclean g)) [
  | inl lt ↦ absurd (let low = gap_low 1 h.summaries in let some : is_some (find (lowest_unclean h) h.summaries) ≡ true = keep (lowest_unclean h) (gap_clean 1 (lowest_unclean h) g.summaries low lt) in
      let none = unclean_missing h F in let z : is_some (find (lowest_unclean h) h.summaries) ≡ false = ap is_some none in let w : true ≡ false = sym some ∙ z in cc)
  | inr ge ↦ omega arith
]

module _ (g : Ground) (ns ms : List (ℕ × Node)) (ds : List (List ℕ × Reader)) (C : Cleaner ns ms) where
  part_cleaner : (p : Left) → part_cost g ms ds p ≤ part_cost g ns ds p
  part_cleaner (Announces l) = omega arith
  part_cleaner (Settles l) = omega arith
  part_cleaner (Ticks l n) = let z = C n l in omega arith
  part_cleaner (Reads t) = omega arith
  part_cleaner Drains = omega arith
  part_cleaner (Again t next) = omega arith

  pub parts_cleaner : (ps : List Left) → parts_cost g ms ds ps ≤ parts_cost g ns ds ps
  parts_cleaner [] = omega arith
  parts_cleaner (p ∷ ps) = let a = part_cleaner p in let b : parts_cost g ms ds ps ≤ parts_cost g ns ds ps = parts_cleaner ps in omega arith

-- ---- a delivery to a node ----

module _ (s : State) (g : Ground) (i : ℕ) (m : Msg) (P : InPlace s.network) (new : In i s.network.fresh) (found : message s.network i ≡ Some m) where
  -- where nodes alone change, and what is sent weighs less than the message
  nodes_less : (ns : List (ℕ × Node)) (ms : List Msg) (ps : List Left) → Cleaner s.nodes ns → weights ms + 1 ≤ weight m.body
      → measure g (record s { nodes = ns; network = send_all (mark s.network i) ms }) ps + 1 ≤ measure g s ps
  nodes_less ns ms ps C light =
      let sent : new_weight (send_all (mark s.network i) ms) ≡ new_weight (mark s.network i) + weights ms = sent_weight (mark s.network i) ms (mark_in_place s.network i P) in
      let gone : new_weight (mark s.network i) + weight_of (message s.network i) ≤ new_weight s.network = mark_weight s.network i new in
      let w : weight_of (message s.network i) ≡ weight m.body = ap weight_of found in
      let parts : parts_cost g ns s.readers ps ≤ parts_cost g s.nodes s.readers ps = parts_cleaner g s.nodes ns s.readers C ps in omega arith

  heard_less : (c : Config) (n : ℕ) (o : Option Op) (b : Option Body) (ps : List Left) → answer_weight b + 1 ≤ weight m.body
      → Cleaner s.nodes (Step.handles (with_node (Step.marked s i) n (Step.releases (node_at s n) m.log m.body)) n m o b).state.nodes
      → measure g (finish (Step.handles (with_node (Step.marked s i) n (Step.releases (node_at s n) m.log m.body)) n m o b)).state ps + 1 ≤ measure g s ps
  unfolding finish
  heard_less c n None b ps light C = nodes_less _ (answer_message n m b) ps C (let z = answer_weighs n m b in omega arith)
  heard_less c n (Some o) b ps light C = nodes_less _ (if Step.is_written (keep_end (node_at (with_node (Step.marked s i) n (Step.releases (node_at s n) m.log m.body)) n) o) then answer_message n m b else []) ps C
      (cond_both (Step.is_written (keep_end (node_at (with_node (Step.marked s i) n (Step.releases (node_at s n) m.log m.body)) n) o)) (answer_message n m b) [] (λ ms. weights ms + 1 ≤ weight m.body) (λ t. let z = answer_weighs n m b in omega arith) (λ t. omega arith))

-- a delivery to a node makes the measure less
pub node_falls : (c : Config) (s : State) (g : Ground) (ps : List Left) (i n : ℕ) (m : Msg) → InPlace s.network → In i s.network.fresh → message s.network i ≡ Some m → m.to ≡ whos.Node n → Cleaner s.nodes (Step.delivers c s i).state.nodes
    → measure g (finish (Step.delivers c s i)).state ps + 1 ≤ measure g s ps
unfolding Step.delivers
node_falls c s g ps i n m P new found to C = subst (λ o. Cleaner s.nodes (Step.delivers_it c s i o).state.nodes → measure g (finish (Step.delivers_it c s i o)).state ps + 1 ≤ measure g s ps) (sym found)
    (subst (λ w. Cleaner s.nodes (Step.comes_to c (Step.marked s i) m w).state.nodes → measure g (finish (Step.comes_to c (Step.marked s i) m w)).state ps + 1 ≤ measure g s ps) (sym to) by_up) C where
      by_up : Cleaner s.nodes (Step.to_node c (Step.marked s i) n m).state.nodes → measure g (finish (Step.to_node c (Step.marked s i) n m)).state ps + 1 ≤ measure g s ps
      by_up = cond_both (is_up (node_at s n).status && has_log c m.log) (Step.to_up_node (Step.marked s i) n m) (unchanged (Step.marked s i)) (λ d. Cleaner s.nodes d.state.nodes → measure g (finish d).state ps + 1 ≤ measure g s ps)
          (λ t K. heard_less s g i m P new found c n (Step.node_handles n (node_at s n) m).op (Step.node_handles n (node_at s n) m).answer ps (handled_light n (node_at s n).plain.generation (log_of (node_at s n).plain m.log) m.log (ballot_of m.from) (Step.released_at (node_at s n) m.log) m.body) K)
          (λ t K. quiet_less s g i m new found ps)

-- ---- a tick ----

module _ (s : State) (g : Ground) (l n : ℕ) (P : InPlace s.network) where
  -- one that cleans nothing, the node's last one
  pub last_tick : (ns : List (ℕ × Node)) (ms : List Msg) (ps : List Left) → Cleaner s.nodes ns → weights ms ≤ 2 * g.nodes → measure g (record s { nodes = ns; network = send_all s.network ms }) ps + 1 ≤ measure g s (Ticks l n ∷ ps)
  last_tick ns ms ps C light =
      let sent : new_weight (send_all s.network ms) ≡ new_weight s.network + weights ms = sent_weight s.network ms P in
      let parts : parts_cost g ns s.readers ps ≤ parts_cost g s.nodes s.readers ps = parts_cleaner g s.nodes ns s.readers C ps in omega arith

  -- one that cleans an epoch that the register knows
  pub clean_tick : (ns : List (ℕ × Node)) (ps : List Left) → Cleaner s.nodes ns → lowest_unclean (log_of (unwrap_or (find n s.nodes) new_node).plain l) + 1 ≤ lowest_unclean (log_of (unwrap_or (find n ns) new_node).plain l)
      → lowest_unclean (log_of (unwrap_or (find n s.nodes) new_node).plain l) ≤ g.epochs l → measure g (record s { nodes = ns }) (Ticks l n ∷ ps) + 1 ≤ measure g s (Ticks l n ∷ ps)
  clean_tick ns ps C more low = let parts : parts_cost g ns s.readers ps ≤ parts_cost g s.nodes s.readers ps = parts_cleaner g s.nodes ns s.readers C ps in omega arith

-- a node asks the others at most
pub asks_light : (n l from : ℕ) (set : List ℕ) (k : ℕ) → length set ≤ k → weights (posted (whos.Node n) l (node_asks n set from)) ≤ 2 * k
asks_light n l from set k h =
    let a = posted_most (whos.Node n) l (node_asks n set from) in let b = each (bodies.ReadAsk 0 from) (without (n ∷ []) set) in let f : length (without (n ∷ []) set) ≤ length set = filtered (λ x. not (is_in x (n ∷ []))) set in omega arith
