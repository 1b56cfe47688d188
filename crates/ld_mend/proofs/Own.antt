-- What a node answers to an ask of itself.
use Rattle.std.proofs.Common.{◌≡◌, ℕ, List, true, ◌&&◌, None, refl, ap, ◌∙◌, if◌then◌else◌}
use Rattle.std.proofs.lemmas.Bool.{eq-eqb}
use Rattle.ld_table.specs.Words.{is_in}
use Rattle.ld_msg.specs.declared.msg.Who.TheVariants as whos
use Rattle.ld_msg.specs.declared.msg.Msg.{Msg}
use Rattle.ld_msg.specs.declared.msg.Body.TheVariants as bodies
use Rattle.ld_op.specs.Plain.{Plain, log_of}
use Rattle.ld_op.specs.Answers.{answers, silent, read_answer}
use Rattle.ld_op.specs.Handles.{answer_message}
use Rattle.ld_node.specs.Known.{Known}
use Rattle.ld_node.specs.Msgs.{handled, released_by, released_after, released_in, raised, is_for}
use Rattle.ld_mend.specs.Course.{is_open}
use Rattle.ld_mend.specs.Standing.{first_open}

abbrev pub own_ask : ℕ → ℕ → ℕ → Msg
own_ask id l n = record { from = whos.Reader 0; to = whos.Node id; log = l; body = bodies.ReadAsk 1 n }

for_it : (id l n : ℕ) (known : Known) → is_in l known.logs ≡ true → is_for id known (own_ask id l n) ≡ true
for_it id l n known has = ap (λ b. b && is_in l known.logs) (eq-eqb id id refl) ∙ has

pub own_handled : (id l n : ℕ) (known : Known) (released : List (ℕ × ℕ)) (p : Plain) → is_in l known.logs ≡ true → handled id known released p (own_ask id l n) ≡ answers (read_answer p.generation (log_of p l) (released_in released l) 1 n)
unfolding handled
own_handled id l n known released p has = ap (λ b. if b then answers (read_answer p.generation (log_of p l) (released_in released l) 1 n) else silent) (for_it id l n known has)

pub own_op : (id l n : ℕ) (known : Known) (released : List (ℕ × ℕ)) (p : Plain) → is_in l known.logs ≡ true → (handled id known released p (own_ask id l n)).op ≡ None
own_op id l n known released p has = ap (λ h. h.op) (own_handled id l n known released p has)

pub own_open : (id l n : ℕ) (known : Known) (released : List (ℕ × ℕ)) (p : Plain) → is_in l known.logs ≡ true
    → first_open (answer_message id (own_ask id l n) (handled id known released p (own_ask id l n)).answer) ≡ is_open (read_answer p.generation (log_of p l) (released_in released l) 1 n)
own_open id l n known released p has = ap (λ h. first_open (answer_message id (own_ask id l n) h.answer)) (own_handled id l n known released p has)

pub own_released : (id l n : ℕ) (known : Known) (released : List (ℕ × ℕ)) → is_in l known.logs ≡ true → released_after id known released (own_ask id l n) ≡ released
unfolding released_by
own_released id l n known released has = ap (λ b. raised released l (if b then None else None)) (for_it id l n known has)
