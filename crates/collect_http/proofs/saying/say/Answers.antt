use Rattle.std.proofs.Common.{◌≡◌, ℕ, List, [], ◌∷◌, ◌++◌, codes, ap, ◌∙◌}
use Rattle.std.proofs.lemmas.Result.{on_ok_weaker}
use Rattle.http1.specs.Fields.{Header}
use Rattle.http_server.specs.Response.{IsResponse}
use Rattle.collect_http.proofs.Responses.{with_field, joined, with_status}
use Rattle.collect_http.proofs.saying.say.Goals as goal

pub returns : goal.returns
returns c = on_ok_weaker c.put_slice.result (λ (body : c.put_slice.new.self.items ≡ c.add_header-2.new.self.body.items ++ c.args.text.now) (code : ℕ) (sent : List Header) (is : IsResponse code sent [] c.args.response.now).
    let kind : Header = (codes "content-type", codes "application/json") in
    let plain = with_status c.args.response.now code c.args.status sent [] is in
    let one = with_field _ c.add_header.new.self c.args.status sent [] kind.0 kind.1 c.from_static.result.bytes plain (ap (λ v. v.bytes) c.from_static.ensures)
    c.in_ok-add_header.ensures.headers c.in_ok-add_header.ensures.status c.in_ok-add_header.ensures.body in
    let two = with_field c.add_header.new.self c.add_header-2.new.self c.args.status (sent ++ kind ∷ []) [] (codes "cache-control") (codes "no-store") c.from_static-2.result.bytes one (ap (λ v. v.bytes) c.from_static-2.ensures)
    c.in_ok-add_header-2.ensures.headers c.in_ok-add_header-2.ensures.status c.in_ok-add_header-2.ensures.body in
    let both = joined sent kind (codes "cache-control", codes "no-store") two in
    record { status = both.status; headers = both.headers; body = body ∙ ap (λ b. b ++ c.args.text.now) both.body }) c.put_slice.ensures.ok
