-- The calls of a link that answered, the newest first.
use Rattle.std.specs.Prelude.{◌≡◌, ℕ, List, [], ◌∷◌, take, Bool, true, false}
use Rattle.std.specs.declared.result.Result.{Result}
use Rattle.std.specs.declared.result.Result.TheVariants.{Ok, Err}
use Rattle.ld_past.specs.Events.{Event, event_of}

-- a peer came
abbrev pub came : Event
came = event_of (0 ∷ []) []

-- there was no next peer
abbrev pub nobody : Event
nobody = event_of (4 ∷ []) []

-- the node of this number was dialed
abbrev pub dialed : ℕ → Event
dialed node = event_of (1 ∷ node ∷ []) []

-- these bytes were read of the present peer; none is its end, or nothing was asked for
abbrev pub read : List ℕ → Event
read bytes = event_of (2 ∷ []) bytes

-- these bytes were written to it
abbrev pub wrote : List ℕ → Event
wrote bytes = event_of (3 ∷ []) bytes

abbrev pub after_next : {E : Type 0} → Result Bool E → List Event → List Event
after_next (Ok true) did = came ∷ did
after_next (Ok false) did = nobody ∷ did
after_next (Err e) did = did

abbrev pub after_read : {E : Type 0} → Result ℕ E → List ℕ → List Event → List Event
after_read (Ok n) buf did = read (take n buf) ∷ did
after_read (Err e) buf did = did

abbrev pub after_write : {E : Type 0} → Result ℕ E → List ℕ → List Event → List Event
after_write (Ok n) piece did = wrote (take n piece) ∷ did
after_write (Err e) piece did = did

abbrev pub after_dial : {E : Type 0} → Result (Unit {0}) E → ℕ → List Event → List Event
after_dial (Ok _) node did = dialed node ∷ did
after_dial (Err e) node did = did
