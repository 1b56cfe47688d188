-- Where peers speak in frames and the store can be opened, only faults, limits and running out of memory stop a node.
use Rattle.std.proofs.Common.{◌≡◌, ◌⊎◌, ⊎_elim, inl, inr, ℕ, List, [], ◌∷◌, ◌++◌, Bool, true, false, Option, Some, Ok, Err, sym, ap, subst, ◌∙◌, append_assoc}
use Rattle.std.specs.Prelude.{⊤, IfErr, IfSome}
use Rattle.std.specs.declared.result.Result.{Result}
use Rattle.ld_msg.specs.declared.msg.Msg.{Msg}
use Rattle.ld_msg.specs.Register.{Register as Contents}
use Rattle.ld_wire.specs.declared.fault.WireFault.{WireFault}
use Rattle.ld_wire.specs.Frames.{frame_of}
use Rattle.ld_wire.specs.Streams.{frames_of, AreMessages}
use Rattle.ld_wire.specs.Judging.{Reading, Complete, Waits, Refused, judge}
use Rattle.ld_wire.proofs.Judges.{judge_frame, refused_extends}
use Rattle.ld_op.specs.Plain.{Plain, unformatted}
use Rattle.ld_store.specs.Ops.{StandsFor, IfStands}
use Rattle.ld_link.specs.Peers.{Peers}
use Rattle.ld_node.specs.Known.{Known}
use Rattle.ld_serve.specs.declared.stop.Stop.{Stop}
use Rattle.ld_serve.specs.declared.stop.Stop.TheVariants.{NoMemory, Disk, Register, Link, BadFrame, Damaged, Blank, Full, GenLimit}
use Rattle.ld_serve.specs.declared.stop.Which.TheVariants as journals
use Rattle.ld_serve.specs.Course.{IsStopped}
use Rattle.ld_serve.specs.Stops.{IsLinkStop, IsUnread, IsNodeStop, IsUnsent}
use Rattle.ld_serve.specs.Opening.{IsOpeningStop}
use Rattle.ld_serve.specs.Serving.{State, after, answers, IsCut}
use Rattle.ld_serve.specs.Whole.{HasStopped, StoppedOn, IsNotOpened}
use Rattle.ld_serve.specs.Complete.{IsSpoken, AreSpoken, MayOpen, IsFaultOrLimit}
use Rattle.ld_serve.proofs.Openings.{blank_stands}

-- ---- frames aren't refused ----

abbrev rest_of : Reading → List ℕ
rest_of (Complete m rest) = rest
rest_of Waits = []
rest_of (Refused f) = []

frame_first : (m : Msg) (ms : List Msg) (rest : List ℕ) → AreMessages (m ∷ ms) → judge (frames_of (m ∷ ms) ++ rest) ≡ Complete m (frames_of ms ++ rest)
frame_first m ms rest are = ap judge (append_assoc (frame_of m) (frames_of ms) rest) ∙ judge_frame m (frames_of ms ++ rest) are.0

not_refused : (ms : List Msg) (rest : List ℕ) (f : WireFault) → AreMessages ms → judge rest ≡ Waits → judge (frames_of ms ++ rest) ≡ Refused f → ⊥
not_refused [] rest f are waits refused =
    let e : Waits ≡ Refused f = sym waits ∙ refused in cc e
not_refused (m ∷ ms) rest f are waits refused =
    let e : Complete m (frames_of ms ++ rest) ≡ Refused f = sym (frame_first m ms rest are) ∙ refused in cc e

record Behind (xs rest : List ℕ) : Type 0 where
  messages : List Msg
  are : AreMessages messages
  bytes_are : xs ≡ frames_of messages ++ rest

-- frames that were taken are the first of those that were sent
behind : (ms ns : List Msg) (xs rest : List ℕ) → AreMessages ms → AreMessages ns → judge rest ≡ Waits → frames_of ms ++ xs ≡ frames_of ns ++ rest → Behind xs rest
behind [] ns xs rest taken sent waits same = record { messages = ns; are = sent; bytes_are = same }
behind (m ∷ ms) [] xs rest taken sent waits same =
    let e : Complete m (frames_of ms ++ xs) ≡ Waits = sym (frame_first m ms xs taken) ∙ ap judge same ∙ waits in absurd (cc e)
behind (m ∷ ms) (n ∷ ns) xs rest taken sent waits same =
    let e : Complete m (frames_of ms ++ xs) ≡ Complete n (frames_of ns ++ rest) = sym (frame_first m ms xs taken) ∙ ap judge same ∙ frame_first n ns rest sent in
    behind ms ns xs rest taken.1 sent.1 waits (ap rest_of e)

never_refused : (ms : List Msg) (held left : List ℕ) (f : WireFault) → AreMessages ms → IsSpoken (frames_of ms ++ (held ++ left)) → judge held ≡ Refused f → ⊥
never_refused ms held left f taken spoken refused =
    let b = behind ms spoken.messages (held ++ left) spoken.rest taken spoken.are spoken.waits spoken.bytes_are in
    not_refused b.messages spoken.rest f b.are spoken.waits (ap judge (sym b.bytes_are) ∙ refused_extends held left f refused)

spoken_at : (before : List (List ℕ)) (bytes : List ℕ) (more : List (List ℕ)) → AreSpoken (before ++ bytes ∷ more) → IsSpoken bytes
spoken_at [] bytes more spoken = spoken.0
spoken_at (b ∷ before) bytes more spoken = spoken_at before bytes more spoken.1

-- ---- stops while it serves ----

link_is : (stop : Stop) → IsLinkStop stop → IsFaultOrLimit stop
link_is NoMemory u = tt
link_is Disk u = tt
link_is Register u = tt
link_is Link u = tt
link_is (BadFrame fault) u = u
link_is (Damaged which place) u = u
link_is Blank u = u
link_is (Full which) u = tt
link_is GenLimit u = tt

node_is : (stop : Stop) → IsNodeStop ⊤ stop → IsFaultOrLimit stop
node_is NoMemory u = tt
node_is Disk u = tt
node_is Register u = tt
node_is Link u = tt
node_is (BadFrame fault) u = u
node_is (Damaged journals.Store place) u = u tt
node_is (Damaged journals.Register place) u = u
node_is Blank u = u
node_is (Full which) u = tt
node_is GenLimit u = tt

unsent_is : (stop : Stop) → IsUnsent stop → IsFaultOrLimit stop
unsent_is NoMemory u = tt
unsent_is Disk u = tt
unsent_is Register u = tt
unsent_is Link u = tt
unsent_is (BadFrame fault) u = u
unsent_is (Damaged which place) u = u
unsent_is Blank u = u
unsent_is (Full which) u = tt
unsent_is GenLimit u = tt

unread_is : (held : List ℕ) (stop : Stop) → ((f : WireFault) → judge held ≡ Refused f → ⊥) → IsUnread held stop → IsFaultOrLimit stop
unread_is held NoMemory never u = tt
unread_is held Disk never u = tt
unread_is held Register never u = tt
unread_is held Link never u = tt
unread_is held (BadFrame fault) never u = never fault u
unread_is held (Damaged which place) never u = u
unread_is held Blank never u = u
unread_is held (Full which) never u = tt
unread_is held GenLimit never u = tt

module _ (id : ℕ) (known : Known) (left : List ℕ → Type 0) (stop : Stop) where
  serving_is : (start : Peers) (s : State) (now : Option Peers) (state : State) → AreSpoken start.coming
      → IsStopped (after id known) (answers id known) (IsCut id known left stop) start s now state → IsFaultOrLimit stop
  serving_is start s now state spoken (inl between) = link_is stop between.cause.0
  serving_is start s now state spoken (inr turn) =
      let present = spoken_at _ _ _ (subst AreSpoken turn.coming spoken) in
      ⊎_elim
      (λ without. unread_is turn.held stop (λ f. never_refused turn.messages turn.held turn.left f turn.taken present) without.cause.0)
      (λ more. ⊎_elim (λ at. node_is stop at.cause.0) (λ unsent. unsent_is stop unsent.cause.0) more)
      turn.last

-- ---- stops before it serves ----

module _ (disk_before disk_now register_before register_now : ℕ) (Told : Type 0) (holds : Contents → Type 0) (damaged : ℕ → Type 0) (id : ℕ) (format : Bool) (bytes : List ℕ) where
  abbrev Stops : Stop → Type 0
  Stops stop = IsOpeningStop disk_before disk_now (Some bytes) register_before register_now Told holds damaged id format stop

  may_stand : MayOpen Told damaged format bytes → (p : Plain) × StandsFor p bytes
  may_stand (inl formatted) = (formatted.0, formatted.1.stands)
  may_stand (inr blank) = (unformatted, blank_stands bytes blank.blank)

  opening_is : (stop : Stop) → MayOpen Told damaged format bytes → Stops stop → IsFaultOrLimit stop
  opening_is NoMemory may o = tt
  opening_is Disk may o = tt
  opening_is Register may o = tt
  opening_is Link may o = tt
  opening_is (BadFrame fault) may o = o
  opening_is (Damaged journals.Store place) may o = let stands = may_stand may in o.none stands.0 stands.1
  opening_is (Damaged journals.Register place) (inl formatted) o = formatted.1.some o.0.1
  opening_is (Damaged journals.Register place) (inr blank) o = blank.sound place (o.1 blank.told)
  opening_is Blank (inl formatted) o = formatted.1.some o.1
  opening_is Blank (inr blank) o = (let e : true ≡ false = sym blank.asked ∙ o.0 in cc e)
  opening_is (Full which) may o = tt
  opening_is GenLimit may o = tt

-- ---- both ----

module _ (disk_before disk_now : ℕ) (seen seen_now : Option (List ℕ)) (before left : List ℕ → Type 0) (register_before register_now : ℕ) (Told : Type 0) (holds holds_now : Contents → Type 0) (damaged : ℕ → Type 0) (id : ℕ) (known : Known) (format : Bool) where
  pub completes : {L : Type 0} (link_before link_now : L) (now : Option Peers) (start : Peers) (bytes : List ℕ) (r : Result Unit Stop) → AreSpoken start.coming → seen ≡ Some bytes → MayOpen Told damaged format bytes
      → IfErr r (λ stop. IsNotOpened disk_before disk_now seen seen_now before left register_before register_now Told holds holds_now damaged id format link_before link_now stop ⊎ HasStopped seen left holds holds_now id known format start now stop)
      → IfErr r IsFaultOrLimit
  completes link_before link_now now start bytes (Ok x) spoken is may stopped = tt
  completes link_before link_now now start bytes (Err stop) spoken is may (inl refused) =
      opening_is disk_before disk_now register_before register_now Told holds damaged id format bytes stop may
      (subst (λ o. IsOpeningStop disk_before disk_now o register_before register_now Told holds damaged id format stop) is refused.cause)
  completes link_before link_now now start bytes (Err stop) spoken is may (inr served) =
      let stands = may_stand disk_before disk_now register_before register_now Told holds damaged id format bytes may in
      let exact = subst (λ o. IfSome o (IfStands (λ bytes. StoppedOn bytes left holds holds_now id known format start now stop))) is served.exact stands.0 stands.1 in
      serving_is id known left stop start _ now exact.last spoken exact.course
