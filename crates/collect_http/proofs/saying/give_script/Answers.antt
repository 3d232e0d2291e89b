use Rattle.std.proofs.Common.{◌≡◌, ℕ, List, [], ◌∷◌, ◌++◌, codes, ap, ◌∙◌}
use Rattle.std.proofs.lemmas.Result.{on_ok_weaker}
use Rattle.http1.specs.Fields.{Header}
use Rattle.http_server.specs.Response.{IsResponse}
use Rattle.collect_http.proofs.Responses.{with_field, joined, with_status}
use Rattle.collect_http.proofs.saying.give_script.Goals as goal

pub returns : goal.returns
returns c = on_ok_weaker c.push.result (λ (body : c.push.new.self.items ≡ c.add_header-2.new.self.body.items ++ c.from_static-3.result) (code : ℕ) (sent : List Header) (is : IsResponse code sent [] c.args.response.now).
    let kind : Header = (codes "content-type", codes "text/javascript") in
    let one = with_field _ c.add_header.new.self 200 sent [] kind.0 kind.1 c.from_static.result.bytes (with_status c.args.response.now code 200 sent [] is) (ap (λ v. v.bytes) c.from_static.ensures)
    c.in_ok-add_header.ensures.headers c.in_ok-add_header.ensures.status c.in_ok-add_header.ensures.body in
    let two = with_field c.add_header.new.self c.add_header-2.new.self 200 (sent ++ kind ∷ []) [] (codes "cache-control") (codes "max-age=3600") c.from_static-2.result.bytes one (ap (λ v. v.bytes) c.from_static-2.ensures)
    c.in_ok-add_header-2.ensures.headers c.in_ok-add_header-2.ensures.status c.in_ok-add_header-2.ensures.body in
    let both = joined sent kind (codes "cache-control", codes "max-age=3600") two in
    record { status = both.status; headers = both.headers; body = body ∙ ap (λ b. b ++ c.from_static-3.result) both.body ∙ c.from_static-3.ensures }) c.push.ensures
