use Rattle.std.proofs.Common.{◌≡◌, ℕ, List, [], ◌++◌, ap, ◌∙◌}
use Rattle.std.proofs.lemmas.Result.{on_ok_weaker}
use Rattle.http1.specs.Fields.{Header}
use Rattle.http_server.specs.Response.{IsResponse}
use Rattle.upload_store.specs.Standing.{KeepsState}
use Rattle.upload_store.specs.Store.{StoreState}
use Rattle.collect_http.specs.Answering.{text_fields}
use Rattle.collect_http.specs.Telling.{told_text}
use Rattle.collect_http.proofs.telling.say_unstored.Goals as goal

pub returns : goal.returns
returns c = on_ok_weaker c.say.result
    (λ (says : (code : ℕ) (sent : List Header) → IsResponse code sent [] c.args.response.now → IsResponse 200 (sent ++ text_fields) c.deref.result.now c.say.new.response) (code : ℕ) (sent : List Header) (state : StoreState)
    (was : IsResponse code sent [] c.args.response.now) (keeps : KeepsState c.args.store.now state) (empty : state.kept ≡ []).
    let is = says code sent was in
    record { status = is.status; headers = is.headers; body = is.body ∙ c.deref.ensures.value ∙ c.in_ok-text.ensures state keeps empty ∙ ap (told_text state) c.as_slice.ensures.keys }) c.say.ensures
