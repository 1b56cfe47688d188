use Rattle.std.proofs.Common.{ℕ, List, take, Some, sym, ap, ◌∙◌, subst}
use Rattle.ld_past.specs.Events.{Event}
use Rattle.ld_crowd.specs.Serving.{put}
use Rattle.ld_serve.specs.Chats.{held_in}
use Rattle.ld_serve.specs.Talking.{IsServing, AreServed}
use Rattle.ld_serve.proofs.Looks.{Held, served_so, hear_some, hear_full}
use Rattle.ld_serve.proofs.look.hear.Goals as goal

pub returns-in_default-clause-serving : goal.returns-in_default-clause-serving
returns-in_default-clause-serving g c ts x =
    let did = rw c.in-Ok-Some.field-0-is at c.in-Ok-Some.ensures.did in
    subst (λ (d : List Event). AreServed d ts) (sym did) (hear_full _ ts c.args.peer c.args.decoder.bytes _ (held_in c.args.chats.now.chats) x)

pub returns-in-Ok-keep-clause-serving : goal.returns-in-Ok-keep-clause-serving
returns-in-Ok-keep-clause-serving g c ts x =
    let did = rw c.in-Ok-Some.field-0-is at c.in-Ok-Some.ensures.did in
    let now : Held = held_in c.args.chats.now.chats in
    subst (λ (d : List Event). IsServing d ts (held_in c.keep.new.self.chats)) (sym did)
    (hear_some _ ts c.args.peer c.args.decoder.bytes (take c.in-Ok-Some.count c.read.new.buf) now _
    (λ q. c.in-Ok-keep.ensures.kept q ∙ ap (λ (b : List ℕ). put c.args.peer (Some b) now q) (ap (λ d. d.bytes) c.in-Ok.ensures.ok)) x)

pub returns-in-Err-keep-clause-serving : goal.returns-in-Err-keep-clause-serving
returns-in-Err-keep-clause-serving g c ts x =
    let did = rw c.in-Ok-Some.field-0-is at c.in-Ok-Some.ensures.did in
    subst (λ (d : List Event). AreServed d ts) (sym did) (hear_full _ ts c.args.peer c.args.decoder.bytes _ (held_in c.args.chats.now.chats) x)

pub returns-in-Err-keep-2-clause-serving : goal.returns-in-Err-keep-2-clause-serving
returns-in-Err-keep-2-clause-serving g c ts x =
    let did = rw c.in-Ok-Later.field-0-is at c.in-Ok-Later.ensures.did in
    subst (λ (d : List Event). AreServed d ts) (sym did) (served_so _ ts _ x)

pub returns-in-Err-clause-serving : goal.returns-in-Err-clause-serving
returns-in-Err-clause-serving g c ts x = subst (λ (d : List Event). AreServed d ts) (sym c.in-Err.ensures.did) (served_so _ ts _ x)
