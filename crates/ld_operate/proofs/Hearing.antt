-- What the nodes of the written machine answer.
use Rattle.std.proofs.Common.{◌≡◌, ◌⊎◌, ℕ, List, [], ◌∷◌, ◌++◌, Option, None, Some, Bool, true, false, ◌&&◌, if◌then◌else◌, refl, sym, ap, ◌∙◌, subst, inl, inr, ⊎_elim}
use Rattle.std.specs.Option.{unwrap_or}
use Rattle.std.specs.declared.result.Result.{Result}
use Rattle.std.specs.declared.result.Result.TheVariants.{Ok, Err}
use Rattle.ld_table.specs.Table.{put}
use Rattle.ld_table.proofs.Laws.{put_cases}
use Rattle.ld_config.specs.declared.config.Config.{Config}
use Rattle.ld_msg.specs.declared.msg.Who.TheVariants as whos
use Rattle.ld_msg.specs.declared.msg.Msg.{Msg}
use Rattle.ld_msg.specs.declared.msg.Body.{Body}
use Rattle.ld_machine.specs.Disk.{Node, new_node, is_up}
use Rattle.ld_machine.specs.State.{Done, node_at, with_node, unchanged}
use Rattle.ld_machine.specs.Step.{to_up_node}
use Rattle.ld_machine.specs.Config.{has_log}
use Rattle.ld_dial.specs.Far.{Far, alone, is_up_in, handed, IsHanded, IsGone}
use Rattle.ld_operate.specs.declared.stop.StatusStop.{StatusStop}
use Rattle.ld_operate.specs.Asked.{asks, node_answer}
use Rattle.ld_operate.specs.Heard.{SameNodes, Faces, TakesNext, IsHeard}

-- a node that is put back as it is
pub put_back : (nodes : List (ℕ × Node)) (y z : ℕ) → node_at (alone (put y (node_at (alone nodes) y) nodes)) z ≡ node_at (alone nodes) z
put_back nodes y z = ⊎_elim
    (λ e. ap (λ o. unwrap_or o new_node) e.1 ∙ ap (λ k. node_at (alone nodes) k) (sym e.0))
    (λ n. ap (λ o. unwrap_or o new_node) n.1)
    (put_cases z y (node_at (alone nodes) y) nodes)

-- what an ask does at a node that is up
abbrev pub answered : List (ℕ × Node) → ℕ → ℕ → ℕ → Done
answered nodes y log from = record {
  state = with_node (alone nodes) y (node_at (alone nodes) y);
  lines = [];
  sends = record { from = whos.Node y; to = whos.Reader 0; log = log; body = node_answer (node_at (alone nodes) y) log from } ∷ [];
}

pub handed_is : (c : Config) (nodes : List (ℕ × Node)) (y log from : ℕ) → is_up_in nodes y ≡ true → has_log c log ≡ true → handed c nodes y (asks y log from) ≡ answered nodes y log from
handed_is c nodes y log from up has =
    ap (λ b. if b && has_log c log then to_up_node (alone nodes) y (asks y log from) else unchanged (alone nodes)) up
    ∙ ap (λ b. if b then to_up_node (alone nodes) y (asks y log from) else unchanged (alone nodes)) has

pub up_still : (before now : List (ℕ × Node)) (y : ℕ) → SameNodes before now → is_up_in before y ≡ true → is_up_in now y ≡ true
up_still before now y same up = ap (λ x. is_up x.status) (same y) ∙ up

same_number : (x y : ℕ) → Some x ≡ Some y → x ≡ y
same_number x y h = cc

heads : (m n : Msg) (rest : List Msg) → n ∷ [] ≡ m ∷ rest → (m ≡ n) × (rest ≡ [])
heads m n rest h = (cc, cc)

-- the answer that is taken is the node's
module _ (all : List (ℕ × Node)) (y log from : ℕ) (c : Config) (far : Far) (same : SameNodes all far.nodes) (present : far.present ≡ Some y) (none : far.answers ≡ []) (up : is_up_in all y ≡ true) (has : has_log c log ≡ true) (T U : Far → Type 0) where
  after : Far
  after = record { nodes = (handed c far.nodes y (asks y log from)).state.nodes; present = Some y; answers = far.answers ++ (handed c far.nodes y (asks y log from)).sends }

  taken_is : (m : Msg) (rest : List Msg) (b : Body) → (far.answers ++ (handed c far.nodes y (asks y log from)).sends) ≡ m ∷ rest → b ≡ m.body
      → U (record { nodes = (handed c far.nodes y (asks y log from)).state.nodes; present = Some y; answers = rest }) → (b ≡ node_answer (node_at (alone all) y) log from) × Faces U all y
  taken_is m rest b e is told =
      let h = handed_is c far.nodes y log from (up_still all far.nodes y same up) has in
      let sends : (answered far.nodes y log from).sends ≡ m ∷ rest = ap (λ l. l ++ (answered far.nodes y log from).sends) (sym none) ∙ ap (λ (d : Done). far.answers ++ d.sends) (sym h) ∙ e in
      let split = heads m (record { from = whos.Node y; to = whos.Reader 0; log = log; body = node_answer (node_at (alone far.nodes) y) log from }) rest sends in (
        is ∙ ap (λ (n : Msg). n.body) split.0 ∙ ap (λ x. node_answer x log from) (same y),
        record {
          far = record { nodes = put y (node_at (alone far.nodes) y) far.nodes; present = Some y; answers = [] };
          told = subst (λ l. U (record { nodes = put y (node_at (alone far.nodes) y) far.nodes; present = Some y; answers = l })) split.1 (subst (λ (d : Done). U (record { nodes = d.state.nodes; present = Some y; answers = rest })) h told);
          same = λ z. put_back far.nodes y z ∙ same z;
          present = refl;
          none = refl;
        },
      )

  pub sent_answered : (silent : Bool) (result : Result (Option Body) StatusStop) → IsHanded c far (asks y log from) T → ((f : Far) → T f → TakesNext f U result) → IsHeard U silent all y log from result
  sent_answered silent (Ok (Some b)) sent takes =
      let n = same_number sent.node y (sym sent.present ∙ present) in
      let told = subst (λ k. T (record { nodes = (handed c far.nodes k (asks y log from)).state.nodes; present = Some k; answers = far.answers ++ (handed c far.nodes k (asks y log from)).sends })) n sent.told in
      let t = takes _ told in
      inr (taken_is t.0 t.1 b t.2 t.3 t.4)
  sent_answered silent (Ok None) sent takes =
      let n = same_number sent.node y (sym sent.present ∙ present) in
      let told = subst (λ k. T (record { nodes = (handed c far.nodes k (asks y log from)).state.nodes; present = Some k; answers = far.answers ++ (handed c far.nodes k (asks y log from)).sends })) n sent.told in
      let e = takes _ told in
      let h = handed_is c far.nodes y log from (up_still all far.nodes y same up) has in
      let sends : (answered far.nodes y log from).sends ≡ [] = ap (λ l. l ++ (answered far.nodes y log from).sends) (sym none) ∙ ap (λ (d : Done). far.answers ++ d.sends) (sym h) ∙ e in
      absurd cc
  sent_answered silent (Err stop) sent takes = tt

-- it isn't gone, so the nodes are silent
pub not_gone : (all : List (ℕ × Node)) (y : ℕ) (far : Far) (T : Far → Type 0) (silent : Bool) → SameNodes all far.nodes → far.present ≡ Some y → is_up_in all y ≡ true → IsGone far T ⊎ (silent ≡ true) → silent ≡ true
not_gone all y far T silent same present up (inr s) = s
not_gone all y far T silent same present up (inl gone) =
    let n = same_number gone.node y (sym gone.present ∙ present) in
    let down : is_up_in far.nodes y ≡ false = ap (λ k. is_up_in far.nodes k) (sym n) ∙ gone.down in
    let e = up_still all far.nodes y same up in
    absurd cc
