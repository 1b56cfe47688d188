-- As the nodes of a log tick, where they are lost is taken anew: its readers are at rest, so this changes nothing else.
use Rattle.std.proofs.Common.{◌≡◌, ◌∙◌, ◌≤◌, ◌<◌, ℕ, suc, ◌+◌, ◌*◌, inl, inr, refl, ap, sym, subst, Bool, true, false, not, ◌||◌, ◌&&◌, ◌==◌, if◌then◌else◌, nat_lt, List, [], ◌∷◌, Option, Some, None, arith}
use Rattle.std.proofs.lemmas.Bool.{cases_Bool, eqb-true, eq-eqb, ltb-true}
use Rattle.ld_table.specs.Table.{find}
use Rattle.ld_table.specs.Named.{find_named}
use Rattle.ld_table.specs.Words.{how_many}
use Rattle.ld_lsn.specs.Number.{home_epoch}
use Rattle.ld_config.specs.declared.config.Config.{Config}
use Rattle.ld_msg.specs.declared.msg.Msg.{Msg}
use Rattle.ld_msg.specs.declared.msg.Who.TheVariants as whos
use Rattle.ld_msg.specs.Reading.{Held}
use Rattle.ld_msg.specs.Reader.{Reader, Confirmation, Senders, is_finished, last_round, round_of}
use Rattle.ld_machine.specs.Disk.{Node}
use Rattle.ld_machine.specs.State.{State}
use Rattle.ld_machine.specs.Step as Step
use Rattle.ld_machine.specs.World.{In}
use Rattle.ld_safety.proofs.Lists.{cond_both}
use Rattle.ld_safety.proofs.Names as names
use Rattle.ld_safety.proofs.Events.{NamesOnce}
use Rattle.ld_safety.proofs.LostRounds.{Rounds}
use Rattle.ld_machine.specs.Calm.{Left, Announces, Settles, Ticks, Reads, Drains, Again}
use Rattle.ld_calm.proofs.Lefts.{left}
use Rattle.ld_calm.proofs.Asking as asking
use Rattle.ld_calm.proofs.Asking.{may_ask}
use Rattle.ld_calm.proofs.Sums.{sum_of, sum_by}
use Rattle.ld_calm.proofs.Measure.{Ground, ground_of, ground_at, reader_cost, part_cost, parts_cost, measure, right_now, round_of_named, sequencer_cost}
use Rattle.ld_calm.proofs.Weights.{new_weight}
use Rattle.ld_calm.proofs.Halves.{begin_half, since_now}
use Rattle.ld_calm.proofs.Confirming.{AllApart}
use Rattle.ld_calm.proofs.Half.{Fresh}
use Rattle.ld_calm.proofs.Halved.{HalfTalk, NowAs, round_wave}
use Rattle.ld_calm.proofs.Alike.{AllAlike, AllAlikeBut}

-- the log's readers have asked nothing since then
abbrev pub Rests : Ground → State → ℕ → Type 0
Rests g s l = (t : List ℕ) (d : Reader) → find_named t s.readers ≡ Some d → d.log ≡ l → d.round ≤ g.since t

-- where the log's nodes are lost is taken anew
abbrev pub renew : Ground → State → ℕ → Ground
renew g s l = record {
  nodes = g.nodes;
  all = g.all;
  sizes = g.sizes;
  items = g.items;
  given = g.given;
  epochs = g.epochs;
  swaps = g.swaps;
  since = g.since;
  right = λ k. if k == l then right_now s l else g.right k;
}

-- all that came to a reader is of its round at most
abbrev pub RoundsMost : State → Type 0
RoundsMost s = (t : List ℕ) (d : Reader) → find_named t s.readers ≡ Some d → (m : Msg) → In m s.network.sent → m.to ≡ whos.Reader d.number → round_of m.body ≤ d.round

pub rounds_most : (s : State) → Rounds s.register (λ m. In m s.network.sent) s.readers → RoundsMost s
rounds_most s R t d f m i q = let a = round_wave m.body in let b = (R.waves m d.number t d i (inl q) f refl).wave in omega arith

-- ---- what nodes are ----

pub alike_now : (g : Ground) (s t : State) → AllAlike s t → NowAs g s → NowAs g t
alike_now g s t h n l y k e = n l y k e ∙ sym (λ i. ((h y).generation i == k) && (h y).lost l e i)

pub renewed_now : (g : Ground) (s t : State) (l : ℕ) → AllAlikeBut l s t → NowAs g s → NowAs (renew g t l) t
renewed_now g s t l h n j y k e = by_log (j == l) refl where
  other : (j == l) ≡ false → j ≡ l → ⊥
  other u q = let z : (j == l) ≡ true = eq-eqb j l q in let w : true ≡ false = sym z ∙ u in cc

  by_log : (b : Bool) → (j == l) ≡ b → (if j == l then right_now t l else g.right j) y k e ≡ right_now t j y k e
  by_log true u = (λ i. (if u i then right_now t l else g.right j) y k e) ∙ sym (ap (λ z. right_now t z y k e) (eqb-true j l u))
  by_log false u = (λ i. (if u i then right_now t l else g.right j) y k e) ∙ (n j y k e ∙ sym (λ i. ((h y).generation i == k) && (h y).lost j e (other u) i))

pub begun_now : (g : Ground) (s : State) (l : ℕ) → NowAs g s → NowAs (begin_half g s l) s
begun_now g s l n j y k e = by_log (j == l) refl where
  by_log : (b : Bool) → (j == l) ≡ b → (if j == l then right_now s l else g.right j) y k e ≡ right_now s j y k e
  by_log true u = (λ i. (if u i then right_now s l else g.right j) y k e) ∙ sym (ap (λ z. right_now s z y k e) (eqb-true j l u))
  by_log false u = (λ i. (if u i then right_now s l else g.right j) y k e) ∙ n j y k e

-- ---- what came to readers ----

-- with other rounds for some readers, and other nodes for them
anew : (right : ℕ → ℕ → ℕ → ℕ → Bool) (s : State) (l j : ℕ) → (b : Bool) → (j == l) ≡ b → b ≡ false → (if j == l then right_now s l else right j) ≡ right j
anew right s l j b u v = λ i. if (u ∙ v) i then right_now s l else right j

pub renewed_talk : (g : Ground) (s : State) (l : ℕ) → RoundsMost s → Rests g s l → HalfTalk g s.network.sent s.readers → HalfTalk (renew g s l) s.network.sent s.readers
renewed_talk g s l R H P = record { since = P.since; none = P.none; sent = λ t d f m i q u. by_log t d f m i q u (d.log == l) refl } where
  by_log : (t : List ℕ) (d : Reader) → find_named t s.readers ≡ Some d → (m : Msg) → In m s.network.sent → m.to ≡ whos.Reader d.number → g.since t < round_of m.body → (b : Bool) → (d.log == l) ≡ b
      → Fresh (if d.log == l then right_now s l else g.right d.log) (Step.sender_node m.from) m.body
  by_log t d f m i q u true e = absurd (let a = H t d f (eqb-true d.log l e) in let b = R t d f m i q in omega arith)
  by_log t d f m i q u false e = subst (λ r. Fresh r (Step.sender_node m.from) m.body) (sym (anew g.right s l d.log false e refl)) (P.sent t d f m i q u)

-- as a half begins
pub begun_talk : (g : Ground) (s : State) (l : ℕ) → RoundsMost s → HalfTalk g s.network.sent s.readers → HalfTalk (begin_half g s l) s.network.sent s.readers
begun_talk g s l R P = record {
  since = λ t d f. subst (λ o. since_now l g.since t o ≤ d.round) (sym f) (cond_both (d.log == l) d.round (g.since t) (λ n. n ≤ d.round) (λ u. omega arith) (λ u. P.since t d f));
  none = λ t f. ap (since_now l g.since t) f ∙ P.none t f;
  sent = λ t d f m i q u. by_log t d f m i q (subst (λ o. since_now l g.since t o < round_of m.body) f u) (d.log == l) refl;
} where
  by_log : (t : List ℕ) (d : Reader) → find_named t s.readers ≡ Some d → (m : Msg) → In m s.network.sent → m.to ≡ whos.Reader d.number → (if d.log == l then d.round else g.since t) < round_of m.body → (b : Bool) → (d.log == l) ≡ b
      → Fresh (if d.log == l then right_now s l else g.right d.log) (Step.sender_node m.from) m.body
  by_log t d f m i q u true e = absurd (let a : (if d.log == l then d.round else g.since t) ≡ d.round = ap (λ (b : Bool). if b then d.round else g.since t) e in let b = R t d f m i q in omega arith)
  by_log t d f m i q u false e = subst (λ r. Fresh r (Step.sender_node m.from) m.body) (sym (anew g.right s l d.log false e refl))
      (P.sent t d f m i q (let a : (if d.log == l then d.round else g.since t) ≡ g.since t = ap (λ (b : Bool). if b then d.round else g.since t) e in omega arith))

-- then the log's readers rest
pub begun_rests : (g : Ground) (s : State) (l : ℕ) → Rests (begin_half g s l) s l
begun_rests g s l t d f e = subst (λ o. d.round ≤ since_now l g.since t o) (sym f) (cond_both (d.log == l) d.round (g.since t) (λ n. d.round ≤ n) (λ u. omega arith) (λ u. absurd (let z : (d.log == l) ≡ true = eq-eqb d.log l e in let w : true ≡ false = sym z ∙ u in cc)))

-- as a calm begins
pub first_talk : (c : Config) (s : State) → RoundsMost s → HalfTalk (ground_at c s) s.network.sent s.readers
first_talk c s R = record {
  since = λ t d f. (let e : round_of_named s t (find_named t s.readers) ≡ d.round = ap (round_of_named s t) f in omega arith);
  none = λ t f. ap (round_of_named s t) f;
  sent = λ t d f m i q u. absurd (let e : round_of_named s t (find_named t s.readers) ≡ d.round = ap (round_of_named s t) f in let b = R t d f m i q in omega arith);
}

pub first_now : (c : Config) (s : State) → NowAs (ground_at c s) s
first_now c s l y k e = refl

-- ---- the measure ----

-- where no confirmation is of a round since then, it is the same
module _ (g : asking.Ground) (right : ℕ → ℕ → ℕ → Bool) (d : Reader) (rests : (v : Confirmation) → d.confirming ≡ Some v → nat_lt g.since v.round ≡ false) where
  abbrev other : asking.Ground
  other = record { nodes = g.nodes; all = g.all; swaps = g.swaps; marks = g.marks; since = g.since; right = right }

  wrongly_same : (e y : ℕ) (o : Option Confirmation) → ((v : Confirmation) → o ≡ Some v → nat_lt g.since v.round ≡ false) → asking.asks_wrongly other e y o ≡ asking.asks_wrongly g e y o
  wrongly_same e y None h = refl
  wrongly_same e y (Some v) h = (λ i. h v refl i && asking.is_wrong right e y (find y v.asked)) ∙ sym (λ i. h v refl i && asking.is_wrong g.right e y (find y v.asked))

  unsure_same : (e : ℕ) (hs : List (ℕ × Held)) (o : Option Confirmation) → ((v : Confirmation) → o ≡ Some v → nat_lt g.since v.round ≡ false) → (ys : List ℕ) → how_many (asking.is_unsure other e hs o) ys ≡ how_many (asking.is_unsure g e hs o) ys
  unsure_same e hs o h [] = refl
  unsure_same e hs o h (y ∷ ys) = λ i. if not (asking.is_fresh g.since (find y hs)) || wrongly_same e y o h i then suc (unsure_same e hs o h ys i) else unsure_same e hs o h ys i

  loose_same : (o : Option Confirmation) → asking.loose other o ≡ asking.loose g o
  loose_same None = refl
  loose_same (Some v) = refl

  single_same : (o : Option Senders) → asking.single other o ≡ asking.single g o
  single_same None = refl
  single_same (Some v) = refl

  pub cost_same : may_ask other d ≡ may_ask g d
  cost_same =
      let u = unsure_same (home_epoch d.next) d.held d.confirming rests g.all in
      let w = loose_same d.confirming in let z = single_same d.senders in
      λ i. if is_finished d || not (nat_lt d.round last_round) then 0 else 3 * (g.nodes * left d.next g.marks) + (g.nodes * u i + (w i + (z i + asking.swap_cost g d.seen)))

not_above : (n r : ℕ) → r ≤ n → nat_lt n r ≡ false
not_above n r h = elim (cases_Bool (nat_lt n r)) [ inl t ↦ absurd (let z = ltb-true n r t in omega arith) | inr t ↦ t ]

module _ (g : Ground) (s t : State) (l : ℕ) (A : AllApart s.readers) (H : Rests g s l) where
  reader_same : (e : List ℕ × Reader) → find_named e.0 s.readers ≡ Some e.1 → reader_cost (renew g t l) e.0 e.1 ≡ reader_cost g e.0 e.1
  reader_same e f = by_log (e.1.log == l) refl where
    by_log : (b : Bool) → (e.1.log == l) ≡ b → reader_cost (renew g t l) e.0 e.1 ≡ reader_cost g e.0 e.1
    by_log true u = cost_same (ground_of g e.0 e.1.log) (if e.1.log == l then right_now t l else g.right e.1.log) e.1 (λ v q. not_above (g.since e.0) v.round (let a = (A e.0 e.1 f v q).1 in let b = H e.0 e.1 f (eqb-true e.1.log l u) in omega arith))
    by_log false u = ap (λ r. may_ask (record { nodes = g.nodes; all = g.all; swaps = g.swaps e.1.log; marks = g.items e.1.log; since = g.since e.0; right = r }) e.1) (anew g.right t l e.1.log false u refl)

  readers_same : (ds : List (List ℕ × Reader)) → ((e : List ℕ × Reader) → In e ds → find_named e.0 s.readers ≡ Some e.1) → sum_by (reader_cost (renew g t l)) ds ≡ sum_by (reader_cost g) ds
  readers_same [] f = refl
  readers_same (e ∷ ds) f = λ i. reader_same e (f e (inl refl)) i + readers_same ds (λ x j. f x (inr j)) i

  parts_same : (ns : List (ℕ × Node)) (ds : List (List ℕ × Reader)) (ps : List Left) → parts_cost (renew g t l) ns ds ps ≡ parts_cost g ns ds ps
  parts_same ns ds [] = refl
  parts_same ns ds (p ∷ ps) = (λ i. one p i + parts_same ns ds ps i) where
    one : (p : Left) → part_cost (renew g t l) ns ds p ≡ part_cost g ns ds p
    one (Announces k) = refl
    one (Settles k) = refl
    one (Ticks k n) = refl
    one (Reads name) = refl
    one Drains = refl
    one (Again name next) = refl

  -- to take it anew costs nothing while the readers rest
  pub renewed_measure : NamesOnce s → t.readers ≡ s.readers → (ps : List Left) → measure (renew g t l) t ps ≡ measure g t ps
  renewed_measure N q ps =
      let r : sum_by (reader_cost (renew g t l)) t.readers ≡ sum_by (reader_cost g) t.readers = subst (λ (ds : List (List ℕ × Reader)). sum_by (reader_cost (renew g t l)) ds ≡ sum_by (reader_cost g) ds) (sym q) (readers_same s.readers (λ e i. names.found s.readers e N.1 i)) in
      let p = parts_same t.nodes t.readers ps in λ i. new_weight t.network + (2 * sum_of (sequencer_cost g) t.sequencers + (2 * r i + p i))
