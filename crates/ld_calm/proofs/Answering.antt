-- What an answer and its reader need of a half, where items end at marks.
use Rattle.std.proofs.Common.{◌<◌, ◌≡◌, ◌≤◌, ℕ, inl, refl, sym, subst, Bool, true, false, List, length, Some, None, is_some, arith}
use Rattle.ld_table.specs.Table.{find}
use Rattle.ld_table.specs.Named.{find_named}
use Rattle.ld_ids.specs.Choice.{nodes_of}
use Rattle.ld_config.specs.declared.config.Config.{Config}
use Rattle.ld_msg.specs.declared.msg.Msg.{Msg}
use Rattle.ld_msg.specs.declared.msg.Who.TheVariants as whos
use Rattle.ld_msg.specs.declared.msg.Body.{Body}
use Rattle.ld_msg.specs.Register.{View}
use Rattle.ld_msg.specs.Reading.{trim_held, record_held, hole_held, plug_held, end_held, bridge_to, lost_held, within}
use Rattle.ld_msg.specs.Reader.{Reader, Confirmation, is_finished, heard, seen_nodes, is_confirmed}
use Rattle.ld_machine.specs.Config.{looks_at}
use Rattle.ld_machine.specs.State.{State}
use Rattle.ld_machine.specs.World.{In}
use Rattle.ld_machine.specs.Step as Step
use Rattle.ld_safety.proofs.LostRounds.{Rounds, wave_of, answer_to}
use Rattle.ld_calm.proofs.Asking as asking
use Rattle.ld_calm.proofs.Confirming.{AllApart, heard_apart}
use Rattle.ld_calm.proofs.Measure.{Ground, ground_of}
use Rattle.ld_calm.proofs.Heard.{FitsAnswer}
use Rattle.ld_calm.proofs.Half.{HeldWell, heard_well, lost_right, few_lost, Comes, is_newest, unsure_or_item}
use Rattle.ld_calm.proofs.Holders.{Holders}
use Rattle.ld_calm.proofs.Waved.{Waved, InWave, node_of}
use Rattle.ld_calm.proofs.Halved.{HalfTalk, round_wave}

-- what is known of a message to a reader
pub comes_to : (g : Ground) (s : State) → Rounds s.register (λ m. In m s.network.sent) s.readers → AllApart s.readers → Holders g.all s.network.sent s.readers → Waved s.network.sent s.readers → HalfTalk g s.network.sent s.readers
    → (name : List ℕ) (d : Reader) → find_named name s.readers ≡ Some d → (m : Msg) → In m s.network.sent → m.to ≡ whos.Reader d.number → Comes g.all (g.since name) (g.right d.log) d (Step.sender_node m.from) m.body
comes_to g s R A H W P name d f m i q = record {
  held = record {
    once = (H.held name d f).once;
    rounds = (H.held name d f).rounds;
    nodes = (H.held name d f).nodes;
    fresh = λ h j u. P.sent name d f (answer_to h.0 d h.1.body) (R.held name d h f j) refl (let e = (H.held name d f).rounds h j in omega arith);
  };
  top = λ h j. let e = (H.held name d f).rounds h j in let a = round_wave h.1.body in let b = (R.waves (answer_to h.0 d h.1.body) d.number name d (R.held name d h f j) (inl refl) f refl).wave in omega arith;
  apart = A name d f;
  member = (H.sent m i).came d.number q;
  fresh = λ u. P.sent name d f m i q u;
  waved = λ v e r.
      let a = round_wave m.body in let b = (R.waves m d.number name d i (inl q) f refl).wave in let k = (A name d f v e).1 in
      let w : InWave d v m = W name d f v e m i (inl q) (let z : wave_of m.body ≡ v.round = omega arith in z) in
      let n : node_of m.from m.to ≡ Step.sender_node m.from = (λ j. node_of (R.nodes m d.number i q j) m.to) in
      (w.place, subst (λ z. is_some (find z v.asked) ≡ true) n w.asked);
}

-- what is wanted of items: they end at marks
pub record Items (g : asking.Ground) (all : length g.all ≡ g.nodes) (looks : ℕ → View) (looked : (e : ℕ) → length (nodes_of (looks e).spec) ≤ g.nodes) (swaps : (e : ℕ) → (looks e).swaps ≡ g.swaps) (d : Reader) (y : ℕ) (b : Body)
    (since : g.since ≤ d.round) (apart : (v : Confirmation) → (heard d y b).confirming ≡ Some v → d.senders ≡ None) : Type 0 where
  pub positive : 0 < d.next
  pub trim : (e : Reader) → asking.Through g all looks looked swaps d y b since apart e → e.next ≤ trim_held e.held → In (trim_held e.held) g.marks
  pub there : (e : Reader) (p : List ℕ) → asking.Through g all looks looked swaps d y b since apart e → record_held e.next e.held ≡ Some p → In e.next g.marks
  pub hole : (e : Reader) → asking.Through g all looks looked swaps d y b since apart e → hole_held e.next e.held ≡ true → In e.next g.marks
  pub plug : (e : Reader) → asking.Through g all looks looked swaps d y b since apart e → plug_held e.next e.held ≡ true → In e.next g.marks
  pub end : (e : Reader) (loss : Bool) → asking.Through g all looks looked swaps d y b since apart e → end_held e.next e.held ≡ Some loss → In (bridge_to e.next) g.marks
  pub loss : is_confirmed (heard d y b).confirming ≡ true → In d.next g.marks

module _ (c : Config) (s : State) (g : Ground) (name : List ℕ) (d : Reader) (open_still : is_finished d ≡ false) (y : ℕ) (b : Body) (all : length g.all ≡ g.nodes) (looked : (e : ℕ) → length (nodes_of (looks_at c s.register d.log e).spec) ≤ g.nodes)
    (swaps : (e : ℕ) → (looks_at c s.register d.log e).swaps ≡ g.swaps d.log) (since : g.since name ≤ d.round) (K : Comes g.all (g.since name) (g.right d.log) d y b) where
  pub still_apart : (v : Confirmation) → (heard d y b).confirming ≡ Some v → d.senders ≡ None
  still_apart v q = (heard_apart d y b K.apart v q).0

  well : HeldWell g.all (g.since name) (g.right d.log) (heard d y b).held
  well = heard_well g.all (g.since name) (g.right d.log) d.held y b K.held K.member K.fresh

  facts : Items (ground_of g name d.log) all (looks_at c s.register d.log) looked swaps d y b since still_apart → asking.Facts (ground_of g name d.log) all (looks_at c s.register d.log) looked swaps d y b since still_apart
  facts I = record {
    positive = I.positive;
    trim = I.trim;
    there = I.there;
    hole = I.hole;
    plug = I.plug;
    end = I.end;
    loss = I.loss;
    few = λ e T l. let z : length (lost_held e.next (within (seen_nodes e.seen) e.held)) ≤ length g.all = few_lost g.all (g.since name) (g.right d.log) e.held (subst (HeldWell g.all (g.since name) (g.right d.log)) (sym T.held) well) e.next (seen_nodes e.seen) in omega arith;
    right = λ e x T l f. lost_right g.all (g.since name) (g.right d.log) e.held (subst (HeldWell g.all (g.since name) (g.right d.log)) (sym T.held) well) e.next (seen_nodes e.seen) x f;
  }

  -- all that a delivery to the reader needs
  pub fits_answer : Items (ground_of g name d.log) all (looks_at c s.register d.log) looked swaps d y b since still_apart → FitsAnswer c s g name d y b
  fits_answer I = record {
    all = all;
    looked = looked;
    swaps = swaps;
    since = since;
    apart = still_apart;
    facts = facts I;
    ends = record {
      member = K.member;
      unsure_or_item = unsure_or_item (looks_at c s.register d.log) (ground_of g name d.log) d y b open_still K;
      newer = is_newest (looks_at c s.register d.log) (ground_of g name d.log) d y b open_still K;
    };
  }
