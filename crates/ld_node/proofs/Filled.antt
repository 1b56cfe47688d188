-- What is kept and answered once payloads are read, where the disk tells what it has.
use Rattle.std.proofs.Common.{◌≡◌, ◌≢◌, ◌⊎◌, inl, inr, ℕ, zero, suc, ◌==◌, Bool, false, if◌then◌else◌, List, [], length, map, Option, None, Some, IfSome, IfNone, Result, Ok, Err, OnErr, refl, sym, ap, subst, ◌∙◌, arith}
use Rattle.std.specs.Result.{IsErr, IsErrAnd}
use Rattle.std.proofs.lemmas.Bool.Decides.{nat_tests}
use Rattle.ld_msg.specs.declared.msg.Msg.{Msg}
use Rattle.ld_msg.specs.declared.msg.Body.{Body}
use Rattle.ld_op.specs.declared.op.Op.{Op}
use Rattle.ld_op.specs.Plain.{Plain}
use Rattle.ld_op.specs.Cells.{each_plain, each_msg, byte_at}
use Rattle.ld_op.specs.declared.pointed.Place.{Place}
use Rattle.ld_table.specs.Words.{numbers_from}
use Rattle.ld_table.specs.Named.{same}
use Rattle.ld_msg.specs.declared.msg.Body.TheVariants as bodies
use Rattle.ld_msg.specs.Bounds.{ballot_of}
use Rattle.ld_seal.specs.Decided.{payload_of, stands_there}
use Rattle.ld_store.specs.Open.{told_plain, within}
use Rattle.ld_register.specs.declared.fault.RegisterFault.{RegisterFault}
use Rattle.ld_node.specs.declared.fault.NodeFault.{NodeFault}
use Rattle.ld_node.specs.declared.fault.NodeFault.TheVariants as nodes
use Rattle.ld_node.specs.Known.{Known}
use Rattle.ld_node.specs.Msgs.{handled}
use Rattle.ld_node.proofs.Draws.{refused, error_is}
use Rattle.ld_node.specs.declared.handled.Handled as declared
use Rattle.ld_node.specs.declared.handled.Reply.{Reply}
use Rattle.ld_node.specs.declared.handled.Reply.TheVariants as replies
use Rattle.ld_node.specs.Handling.{IsHandledWith, op_with, reply_with, Stays, accept_of, number_of}

pub on_some : {X : Type 0} (o : Option X) (P : X → Type 0) → ((x : X) → P x) → IfSome o P
on_some None P all = tt
on_some (Some x) P all = all x

pub of_none : {X : Type 0} (o : Option X) (P : Type 0) → o ≡ None → IfNone o P → P
of_none None P is all = all
of_none (Some x) P is all = absurd (cc is)

pub some_too : {X : Type 0} (o : Option X) (P Q : X → Type 0) → ((x : X) → P x → Q x) → IfSome o P → IfSome o Q
some_too None P Q each is = tt
some_too (Some x) P Q each is = each x is

pub of_some : {X : Type 0} (o : Option X) (x : X) (P : X → Type 0) → o ≡ Some x → IfSome o P → P x
of_some {X = X} o x P is all = subst (λ (p : Option X). IfSome p P) is all

module _ (told : Option (List ℕ)) (bytes : List ℕ) (m : Msg) (id : ℕ) (known : Known) (released : List (ℕ × ℕ)) (i q : Plain) (done : declared.Handled) (is : told ≡ Some bytes) (same : q ≡ i)
    (decided : (f : ℕ → ℕ) → IsHandledWith f m done (handled id known released (each_plain f q) m)) where
  as_told : each_plain (byte_at bytes) q ≡ told_plain told i
  as_told = ap (each_plain (byte_at bytes)) same ∙ sym (ap (λ t. told_plain t i) is)

  pub settled_op : (op : Option Op) → IfSome told (λ b. op ≡ op_with (byte_at b) m done.op done.answer) → op ≡ (handled id known released (told_plain told i) m).op
  settled_op op settled = of_some told bytes (λ b. op ≡ op_with (byte_at b) m done.op done.answer) is settled ∙ ((decided (byte_at bytes)).op ∙ ap (λ p. (handled id known released p m).op) as_told)

  pub settled_answer : (a : Option Body) → IfSome told (λ b. a ≡ reply_with (byte_at b) m done.answer) → a ≡ (handled id known released (told_plain told i) m).answer
  settled_answer a settled = of_some told bytes (λ b. a ≡ reply_with (byte_at b) m done.answer) is settled ∙ ((decided (byte_at bytes)).answer ∙ ap (λ p. (handled id known released p m).answer) as_told)

-- no offset is past the end
pub none_past : (told : Option (List ℕ)) (bytes : List ℕ) (i q : Plain) (a : Reply) → told ≡ Some bytes → q ≡ i → IfSome told (λ b. each_plain (within (length b)) i ≡ i)
    → ((n : ℕ) → each_plain (within n) q ≡ q → Stays (within n) a) → IfSome told (λ b. Stays (within (length b)) a → ⊥) → ⊥
none_past told bytes i q a is same inside stays damaged =
    of_some told bytes (λ b. Stays (within (length b)) a → ⊥) is damaged
    (stays (length bytes) (ap (each_plain (within (length bytes))) same ∙ (of_some told bytes (λ b. each_plain (within (length b)) i ≡ i) is inside ∙ sym same)))

-- a refusal with a failed disk, or when out of memory
pub failed_or_memory : {T : Type 0} (r : Result T NodeFault) → (r ≡ Err nodes.Full → ⊥) → (r ≡ Err nodes.NeedsLoad → ⊥) → ((f : RegisterFault) → r ≡ Err (nodes.Register f) → ⊥) → ((place : ℕ) → r ≡ Err (nodes.Damaged place) → ⊥)
    → OnErr r ((r ≡ Err nodes.Disk) ⊎ (r ≡ Err nodes.NoMemory))
failed_or_memory (Ok x) full load register damaged = tt
failed_or_memory (Err nodes.Disk) full load register damaged = inl refl
failed_or_memory (Err nodes.NoMemory) full load register damaged = inr refl
failed_or_memory (Err nodes.Full) full load register damaged = absurd (full refl)
failed_or_memory (Err nodes.NeedsLoad) full load register damaged = absurd (load refl)
failed_or_memory (Err (nodes.Register f)) full load register damaged = absurd (register f refl)
failed_or_memory (Err (nodes.Damaged place)) full load register damaged = absurd (damaged place refl)

-- ---- by the kind of the answer ----

module _ (told : Option (List ℕ)) (m : Msg) (o : Option Op) (a : Reply) where
  abbrev IsOp : Option Op → Type 0
  IsOp op = IfSome told (λ bytes. op ≡ op_with (byte_at bytes) m o a)

  abbrev IsAnswer : Option Body → Type 0
  IsAnswer b = IfSome told (λ bytes. b ≡ reply_with (byte_at bytes) m a)

  pub nothing_op : a ≡ replies.Nothing → IsOp o
  nothing_op is = on_some told _ (λ bytes. ap (op_with (byte_at bytes) m o) (sym is))

  pub nothing_answer : a ≡ replies.Nothing → IsAnswer None
  nothing_answer is = on_some told _ (λ bytes. ap (reply_with (byte_at bytes) m) (sym is))

  pub whole_op : (b : Body) → a ≡ replies.Whole b → IsOp o
  whole_op b is = on_some told _ (λ bytes. ap (op_with (byte_at bytes) m o) (sym is))

  pub whole_answer : (b : Body) → a ≡ replies.Whole b → IsAnswer (Some b)
  whole_answer b is = on_some told _ (λ bytes. ap (reply_with (byte_at bytes) m) (sym is))

  pub page_op : (page : Msg) → a ≡ replies.Page page → IsOp o
  page_op page is = on_some told _ (λ bytes. ap (op_with (byte_at bytes) m o) (sym is))

  pub page_answer : (page filled : Msg) → a ≡ replies.Page page → IfSome told (λ bytes. filled ≡ each_msg (byte_at bytes) page) → IsAnswer (Some filled.body)
  page_answer page filled is reads = some_too told _ _ (λ bytes read. ap (λ (x : Msg). Some x.body) read ∙ ap (reply_with (byte_at bytes) m) (sym is)) reads

  pub page_damaged : (page : Msg) → a ≡ replies.Page page → IfSome told (λ bytes. each_msg (within (length bytes)) page ≢ page) → IfSome told (λ bytes. Stays (within (length bytes)) a → ⊥)
  page_damaged page is past = some_too told _ _ (λ bytes not stays. not (ap (λ b. record page { body = b }) (subst (λ x. Stays (within (length bytes)) x) is stays))) past

  pub compare_op : (place : Place) (there : Bool) → a ≡ replies.Compare place → IfSome told (λ bytes. there ≡ stands_there (byte_at bytes) (payload_of m.body) place) → IsOp (if there then None else accept_of m.log (ballot_of m.from) m.body)
  compare_op place there is stands =
      some_too told _ _ (λ bytes same. ap (λ (b : Bool). if b then None else accept_of m.log (ballot_of m.from) m.body) same ∙ ap (op_with (byte_at bytes) m o) (sym is)) stands

  pub compare_answer : (place : Place) → a ≡ replies.Compare place → IsAnswer (Some (bodies.Stored (number_of m.body)))
  compare_answer place is = on_some told _ (λ bytes. ap (reply_with (byte_at bytes) m) (sym is))

  pub compare_damaged : (place : Place) → a ≡ replies.Compare place → IfSome told (λ bytes. map (within (length bytes)) (numbers_from place.at place.len) ≢ numbers_from place.at place.len) → IfSome told (λ bytes. Stays (within (length bytes)) a → ⊥)
  compare_damaged place is past = some_too told _ _ (λ bytes not stays. not (subst (λ x. Stays (within (length bytes)) x) is stays)) past

-- the op with what stands there, and without it
pub compared_if : (told : Option (List ℕ)) (m : Msg) (o op : Option Op) (a : Reply) (place : Place) (there : Bool) → a ≡ replies.Compare place → IfSome told (λ bytes. there ≡ stands_there (byte_at bytes) (payload_of m.body) place)
    → op ≡ (if there then None else accept_of m.log (ballot_of m.from) m.body) → IfSome told (λ bytes. op ≡ op_with (byte_at bytes) m o a)
compared_if told m o op a place there is stands same = some_too told _ _ (λ bytes s. same ∙ s) (compare_op told m o a place there is stands)

-- ---- a store with no payload ----

pub empty_from : (f : ℕ → ℕ) (at k : ℕ) → (k == 0) ≡ same (map f (numbers_from at k)) []
unfolding same
empty_from f at zero = refl
empty_from f at (suc k) = let e : (suc k == 0) ≡ false = grind (arith, nat_tests) in e

pub empty_there : (told : Option (List ℕ)) (place : Place) (p : List ℕ) → p ≡ [] → IfSome told (λ bytes. (place.len == 0) ≡ stands_there (byte_at bytes) p place)
empty_there told place p is = on_some told _ (λ bytes. empty_from (byte_at bytes) place.at place.len ∙ ap (same (map (byte_at bytes) (numbers_from place.at place.len))) (sym is))

pub payload_there : (told : Option (List ℕ)) (place : Place) (p q : List ℕ) (there : Bool) → q ≡ p → IfSome told (λ bytes. there ≡ same (map (byte_at bytes) (numbers_from place.at place.len)) q) → IfSome told (λ bytes. there ≡ stands_there (byte_at bytes) p place)
payload_there told place p q there is has = some_too told _ _ (λ bytes same_there. same_there ∙ ap (same (map (byte_at bytes) (numbers_from place.at place.len))) is) has

-- a refusal that is passed on
pub passed_from : {T U : Type 0} (r : Result T NodeFault) (a b : NodeFault) → IsErr r × IsErrAnd r (λ x. x ≡ a) → r ≡ refused {T = T} b → refused {T = U} a ≡ refused {T = U} b
passed_from (Ok v) a b gives is = absurd gives.1
passed_from (Err e) a b gives is = ap refused (sym gives.1 ∙ error_is e b is)
