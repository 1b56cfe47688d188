use Rattle.std.proofs.Common.{List, Some, sym, ◌∙◌, subst}
use Rattle.ld_past.specs.Events.{Event}
use Rattle.ld_crowd.specs.Serving.{put}
use Rattle.ld_serve.specs.Chats.{held_in}
use Rattle.ld_serve.specs.Talking.{IsServing, AreServed}
use Rattle.ld_serve.proofs.Looks.{served_so, look_came, look_full, look_of_full}
use Rattle.ld_serve.proofs.look.look.Goals as goal

pub returns-in-Err-keep-clause-serving : goal.returns-in-Err-keep-clause-serving
returns-in-Err-keep-clause-serving g c ts x =
    let did = rw c.in-Ok-Came.field-0-is at c.in-Ok-Came.ensures.did in
    subst (λ (d : List Event). AreServed d ts) (sym did) (look_full _ ts _ x)

pub returns-in-Err-queue-clause-serving : goal.returns-in-Err-queue-clause-serving
returns-in-Err-queue-clause-serving g c ts x =
    let did = rw c.in-Ok-Of.field-0-is at c.in-Ok-Of.ensures.did in
    subst (λ (d : List Event). AreServed d ts) (sym did) (look_of_full _ ts _ _ x)

pub returns-in-Err-clause-serving : goal.returns-in-Err-clause-serving
returns-in-Err-clause-serving g c ts x = subst (λ (d : List Event). AreServed d ts) (sym c.in-Err.ensures.did) (served_so _ ts _ x)

pub returns-in-Ok-clause-serving : goal.returns-in-Ok-clause-serving
returns-in-Ok-clause-serving g c ts x =
    let did = rw c.in-Ok-Came.field-0-is at c.in-Ok-Came.ensures.did in
    let next = rw c.in-Ok-Came.field-0-is at c.in-Ok-Came.ensures.named in
    subst (λ (d : List Event). IsServing d ts (held_in c.named.new.chats.chats)) (sym did)
    (look_came (g.C.Crowd.did c.args.crowd.now) ts c.in-Ok-Came.peer (held_in c.args.chats.now.chats) (held_in c.named.new.chats.chats) next
    (λ q. (λ i. held_in (c.named.ensures.same i) q) ∙ c.in-Ok.ensures.kept q ∙ (λ i. put c.in-Ok-Came.peer (Some (c.new.ensures i).bytes) (held_in c.args.chats.now.chats) q)) x)
