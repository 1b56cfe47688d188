-- Requests to members, and the calls of members in which they are sent.
use Rattle.std.specs.Prelude.{◌≡◌, ◌++◌, ◌∷◌, [], ℕ, List, codes, length}
use Rattle.http1.specs.Fields.{Header}
use Rattle.http1.specs.Conn.{data_text, after_data, finish_text}
use Rattle.http1.specs.Client.{new_client, writing, with_writing, planned_request, after_request}
use Rattle.http1.specs.declared.client.Client.{Client}
use Rattle.http1.specs.declared.conn.BodySize.TheVariants.{Known}
use Rattle.http1.specs.declared.conn.Limits.{Limits}
use Rattle.ld_past.specs.Events.{Event, event_of}

-- ---- a request ----

abbrev pub headers_for : List ℕ → List Header
headers_for host = (codes "host", host) ∷ (codes "content-type", codes "application/json") ∷ []

-- the bytes of one POST of this body to this path, as the HTTP client writes its head, its body and its end
unfoldable pub posted : Client → List ℕ → List ℕ → List ℕ → List ℕ
posted client host path body =
    let size = Known (length body) in
    let begun = after_request client (codes "POST") size (headers_for host) in
    let sent = with_writing begun (after_data (writing begun) (length body)) in
    planned_request client (codes "POST") path size (headers_for host) ++ data_text (writing begun) body ++ finish_text (writing sent) []

-- these bytes are a request with this body to this path of some member
pub record IsRequest (path body bytes : List ℕ) : Type 0 where
  pub limits : Limits
  pub host : List ℕ
  pub is : bytes ≡ posted (new_client limits) host path body

-- ---- the calls of members ----

-- a connection to this member was asked for
abbrev pub connects : ℕ → Event
connects member = event_of (0 ∷ member ∷ []) []

-- these bytes were handed to the member that is connected
abbrev pub sends : List ℕ → Event
sends bytes = event_of (1 ∷ []) bytes

-- a connection was asked for, or a request with this body was sent to this path
pub data IsAsk (path body : List ℕ) : Event → Type 0 where
  connecting : (member : ℕ) → IsAsk path body (connects member)
  asking : (bytes : List ℕ) → IsRequest path body bytes → IsAsk path body (sends bytes)

abbrev pub AreAsks : List ℕ → List ℕ → List Event → Type 0
AreAsks path body [] = Unit {0}
AreAsks path body (e ∷ es) = IsAsk path body e × AreAsks path body es

-- nothing else was sent since than requests with this body to this path; the newest call comes first
pub record Asks (path body : List ℕ) (before now : List Event) : Type 0 where
  pub more : List Event
  pub is : now ≡ more ++ before
  pub all : AreAsks path body more
