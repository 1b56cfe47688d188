-- The parts of a request, one after the other.
use Rattle.std.proofs.Common.{◌≡◌, ℕ, List, [], ◌∷◌, ◌++◌, length, ap, ◌∙◌}
use Rattle.std.specs.Prelude.{codes}
use Rattle.http1.specs.Conn.{data_text, after_data, finish_text}
use Rattle.http1.specs.Client.{new_client, writing, with_writing, planned_request, after_request}
use Rattle.http1.specs.declared.client.Client.{Client}
use Rattle.http1.specs.declared.conn.BodySize.TheVariants.{Known}
use Rattle.http1.specs.declared.conn.Limits.{Limits}
use Rattle.ld_past.specs.Events.{Event}
use Rattle.ld_etcd.specs.Request.{posted, headers_for, Asks, sends}
use Rattle.ld_etcd.proofs.Asking.{asks_one}

pub posts : (client begun sent : Client) (host path body none head middle whole : List ℕ) → none ≡ [] → head ≡ none ++ planned_request client (codes "POST") path (Known (length body)) (headers_for host)
    → begun ≡ after_request client (codes "POST") (Known (length body)) (headers_for host) → middle ≡ head ++ data_text (writing begun) body → sent ≡ with_writing begun (after_data (writing begun) (length body))
    → whole ≡ middle ++ finish_text (writing sent) [] → whole ≡ posted client host path body
unfolding posted
posts client begun sent host path body none head middle whole n h b d s w =
    let planned : List ℕ = planned_request client (codes "POST") path (Known (length body)) (headers_for host) in
    w ∙ ap (λ l. l ++ finish_text (writing sent) []) (d ∙ ap (λ l. l ++ data_text (writing begun) body) (h ∙ ap (λ l. l ++ planned) n))
    ∙ ap (λ (c : Client). planned ++ data_text (writing begun) body ++ finish_text (writing c) []) s
    ∙ ap (λ (c : Client). planned ++ data_text (writing c) body ++ finish_text (writing (with_writing c (after_data (writing c) (length body)))) []) b

pub asks_posted : (path body bytes host : List ℕ) (client : Client) (limits : Limits) (before now : List Event) → client ≡ new_client limits → bytes ≡ posted client host path body → now ≡ sends bytes ∷ before → Asks path body before now
asks_posted path body bytes host client limits before now is posts sent = asks_one path body bytes before now (record { limits = limits; host = host; is = posts ∙ ap (λ c. posted c host path body) is }) sent
