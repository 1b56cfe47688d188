-- Which payloads an answer carries.
use Rattle.std.proofs.Common.{◌≡◌, ℕ, ◌==◌, Bool, true, false, List, [], ◌∷◌, map, Option, Some, None, refl, ap, sym, ◌∙◌, subst, if◌then◌else◌}
use Rattle.std.proofs.lemmas.Bool.{eqb-true}
use Rattle.ld_msg.specs.declared.msg.What.{What}
use Rattle.ld_msg.specs.declared.msg.What.TheVariants.{Rec, Hole, Bridge, Plug, Withheld}
use Rattle.ld_msg.specs.declared.msg.Entry.{Entry}
use Rattle.ld_msg.specs.declared.msg.Body.{Body}
use Rattle.ld_msg.specs.declared.msg.Body.TheVariants as bodies
use Rattle.ld_msg.specs.Choice.{sender}
use Rattle.ld_op.specs.Plain.{Log}
use Rattle.ld_op.specs.Answers.{read_answer, one_answer, withheld, withheld_in, withheld_what, is_node}
use Rattle.ld_op.proofs.Carried.{all_carried}
use Rattle.ld_readnode.specs.Answered.{carried_in, is_sender, read_in, one_in, entries_read, IsSentBy, AreSentBy}

-- ---- all of them ----

all_in : (b : Body) → carried_in (λ number. true) b ≡ b
all_in (bodies.ReadPage round from upto clean es) = ap (λ fs. bodies.ReadPage round from upto clean fs) (all_carried es)
all_in b = refl

module _ (generation : ℕ) (g : Log) (released : ℕ) where
  pub read_is : (ro n : ℕ) (b body : Body) → b ≡ bodies.ReadAsk ro n → body ≡ carried_in (λ number. true) (read_answer generation g released ro n) → body ≡ read_in generation g released b
  read_is ro n b body is same = same ∙ (all_in (read_answer generation g released ro n) ∙ sym (ap (read_in generation g released) is))

-- ---- those that one node sends ----

withheld_is : (n : ℕ) (set excluded : List Bool) (b : Body) → carried_in (is_sender n set excluded) b ≡ withheld_in n set excluded b
withheld_is n set excluded (bodies.ReadPage round from upto clean es) = refl
withheld_is n set excluded b = refl

module _ (node generation : ℕ) (g : Log) (released : ℕ) where
  pub one_is : (ro n : ℕ) (set excluded : List Bool) (b body : Body) → b ≡ bodies.ReadOne ro n set excluded → body ≡ carried_in (is_sender node set excluded) (read_answer generation g released ro n)
      → body ≡ one_in node generation g released b
  unfolding one_answer
  one_is ro n set excluded b body is same = same ∙ (withheld_is node set excluded (read_answer generation g released ro n) ∙ sym (ap (one_in node generation g released) is))

sent_if : (n y : ℕ) (p : List ℕ) (b : Bool) → (y == n) ≡ b → IsSentBy n (Some y) (if b then Rec p else Withheld)
sent_if n y p true same = ap (λ k. Some k) (eqb-true y n same)
sent_if n y p false same = tt

sent : (n : ℕ) (node : Option ℕ) (w : What) → IsSentBy n node (withheld_what (is_node n node) w)
sent n None (Rec p) = tt
sent n (Some y) (Rec p) = sent_if n y p (y == n) refl
sent n who Hole = tt
sent n who Bridge = tt
sent n who Plug = tt
sent n who Withheld = tt

all_sent : (n : ℕ) (set excluded : List Bool) (es : List Entry) → AreSentBy n set excluded (map (withheld n set excluded) es)
all_sent n set excluded [] = tt
all_sent n set excluded (e ∷ es) = (sent n (sender set excluded e.number) e.what, all_sent n set excluded es)

sent_in : (n : ℕ) (set excluded : List Bool) (b : Body) → AreSentBy n set excluded (entries_read (carried_in (is_sender n set excluded) b))
sent_in n set excluded (bodies.ReadPage round from upto clean es) = all_sent n set excluded es
sent_in n set excluded b = tt

-- where the ask names other sets, they are these
pub sent_by : (n : ℕ) (b body answer : Body) (ro from r2 f2 : ℕ) (set excluded s2 x2 : List Bool) → b ≡ bodies.ReadOne ro from set excluded → body ≡ carried_in (is_sender n set excluded) answer
    → b ≡ bodies.ReadOne r2 f2 s2 x2 → AreSentBy n s2 x2 (entries_read body)
sent_by n b body answer ro from r2 f2 set excluded s2 x2 is same also =
    let one : set ≡ s2 = cc in
    let other : excluded ≡ x2 = cc in
    subst (λ x. AreSentBy n s2 x (entries_read body)) other
    (subst (λ s. AreSentBy n s excluded (entries_read body)) one
    (subst (λ page. AreSentBy n set excluded (entries_read page)) (sym same) (sent_in n set excluded answer)))
