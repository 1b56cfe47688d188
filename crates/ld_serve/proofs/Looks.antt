-- A look at a crowd, and a read of one of its peers: how serving goes on.
use Rattle.std.proofs.Common.{◌≡◌, ℕ, List, [], ◌∷◌, ◌++◌, refl, Option, None, Some}
use Rattle.ld_past.specs.Events.{Event}
use Rattle.ld_wire.specs.Frames.{frame_of}
use Rattle.ld_wire.specs.Streams.{frames_of}
use Rattle.ld_crowd.specs.Calls.{came, turned, read, dismissed, arrivals}
use Rattle.ld_crowd.specs.Course.{Taken}
use Rattle.ld_crowd.specs.Serving.{put}
use Rattle.ld_crowd.proofs.Steps.{alike, begin_all, feed_all, dismiss_all, all_with, turned_on, came_on, put_none}
use Rattle.ld_serve.specs.Talking.{Given, IsServing, AreServed, IsLess, BeginsNone}

abbrev pub Held : Type 0
Held = ℕ → Option (List ℕ)

-- ---- a look at the crowd ----

pub look_full : (did : List Event) (ts : List (Taken Given)) (now : Held) → IsServing did ts now → AreServed (came ∷ did) ts
look_full did ts now x = all_with frame_of frames_of IsLess BeginsNone (came ∷ did) ts now (λ g. came_on frame_of frames_of IsLess BeginsNone did ts g (now g) (x g))

pub look_of : (did : List Event) (ts : List (Taken Given)) (p : ℕ) (now new : Held) → ((q : ℕ) → new q ≡ now q) → IsServing did ts now → IsServing (turned p ∷ did) ts new
look_of did ts p now new kept x = alike frame_of frames_of IsLess BeginsNone (turned p ∷ did) ts now new kept (λ g. turned_on frame_of frames_of IsLess BeginsNone did ts g p (now g) (x g))

pub look_of_full : (did : List Event) (ts : List (Taken Given)) (p : ℕ) (now : Held) → IsServing did ts now → AreServed (turned p ∷ did) ts
look_of_full did ts p now x = all_with frame_of frames_of IsLess BeginsNone (turned p ∷ did) ts now (look_of did ts p now now (λ _. refl) x)

pub look_came : (did : List Event) (ts : List (Taken Given)) (p : ℕ) (now new : Held) → p ≡ arrivals did → ((q : ℕ) → new q ≡ put p (Some []) now q) → IsServing did ts now → IsServing (came ∷ did) ts new
look_came did ts p now new next kept x =
    alike frame_of frames_of IsLess BeginsNone (came ∷ did) ts (put p (Some []) now) new kept (begin_all frame_of frames_of IsLess BeginsNone did ts p now next x)

pub served_so : (did : List Event) (ts : List (Taken Given)) (now : Held) → IsServing did ts now → AreServed did ts
served_so did ts now x = all_with frame_of frames_of IsLess BeginsNone did ts now x

-- ---- a read ----

pub hear_some : (did : List Event) (ts : List (Taken Given)) (p : ℕ) (h more : List ℕ) (now new : Held) → ((q : ℕ) → new q ≡ put p (Some (h ++ more)) now q) → IsServing did ts (put p (Some h) now) → IsServing (read p more ∷ did) ts new
hear_some did ts p h more now new kept x = alike frame_of frames_of IsLess BeginsNone (read p more ∷ did) ts (put p (Some (h ++ more)) now) new kept (feed_all frame_of frames_of IsLess BeginsNone did ts p h more now x)

pub hear_full : (did : List Event) (ts : List (Taken Given)) (p : ℕ) (h more : List ℕ) (now : Held) → IsServing did ts (put p (Some h) now) → AreServed (read p more ∷ did) ts
hear_full did ts p h more now x = served_so (read p more ∷ did) ts (put p (Some (h ++ more)) now) (feed_all frame_of frames_of IsLess BeginsNone did ts p h more now x)

pub put_off : (did : List Event) (ts : List (Taken Given)) (p : ℕ) (h : List ℕ) (now : Held) → BeginsNone h → now p ≡ None → IsServing did ts (put p (Some h) now) → IsServing (dismissed p ∷ did) ts now
put_off did ts p h now none gone x =
    alike frame_of frames_of IsLess BeginsNone (dismissed p ∷ did) ts (put p None now) now (put_none p now gone) (dismiss_all frame_of frames_of IsLess BeginsNone did ts p h now none x)
