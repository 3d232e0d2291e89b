use Rattle.std.proofs.Common.{ℕ, List, [], ◌∷◌, ◌++◌, codes, ap, ◌∙◌, append_assoc}
use Rattle.std.specs.Option.{option_copied}
use Rattle.std.proofs.lemmas.Result.{on_ok_weaker}
use Rattle.http1.specs.Fields.{Header}
use Rattle.http_server.specs.Response.{IsResponse}
use Rattle.collect_http.specs.Answering.{methods_at, text_fields}
use Rattle.collect_http.specs.declared.verdict.Resource.TheVariants.{Upload, Script, Health}
use Rattle.collect_http.specs.declared.verdict.Plain.TheVariants.{NoPath, NoMethod, Preflight, Foreign, Gives, Nameless, BadType, TooLong}
use Rattle.collect_http.proofs.Responses.{plain_so}
use Rattle.collect_http.proofs.saying.say_plain.Goals as goal

pub returns-in-Gives-Script : goal.returns-in-Gives-Script
returns-in-Gives-Script c = plain_so c.give_script.result c.args.plain (Gives Script) (c.in-Gives-Script.is ∙ ap Gives (rw c.in-Gives-Script.is at c.in-Gives-Script.field-0-is)) c.args.request.now (option_copied c.args.origin) c.args.response.now c.give_script.new.response
    c.args.recorder.now c.give_script.ensures

pub returns-in-Gives-Health : goal.returns-in-Gives-Health
returns-in-Gives-Health c = plain_so c.say.result c.args.plain (Gives Health) (c.in-Gives-Health.is ∙ ap Gives (rw c.in-Gives-Health.is at c.in-Gives-Health.field-0-is)) c.args.request.now (option_copied c.args.origin) c.args.response.now c.say.new.response
    (codes "{\"ok\":true}\n") c.say.ensures

pub returns-in-Gives-Upload : goal.returns-in-Gives-Upload
returns-in-Gives-Upload c =
    plain_so c.say-in-Gives-Upload.result c.args.plain (Gives Upload) (c.in-Gives-Upload.is ∙ ap Gives (rw c.in-Gives-Upload.is at c.in-Gives-Upload.field-0-is)) c.args.request.now (option_copied c.args.origin) c.args.response.now c.say-in-Gives-Upload.new.response
    (codes "{\"ok\":true}\n") c.say-in-Gives-Upload.ensures

pub returns-in-Preflight : goal.returns-in-Preflight
returns-in-Preflight c = plain_so c.answer_preflight.result c.args.plain Preflight c.in-Preflight.is c.args.request.now (option_copied c.args.origin) c.args.response.now c.answer_preflight.new.response [] c.answer_preflight.ensures

pub returns-in_ok-allow-in-NoMethod : goal.returns-in_ok-allow-in-NoMethod
returns-in_ok-allow-in-NoMethod c =
    let text : List ℕ = codes "{\"why\":\"no such method\"}\n" in
    let allowed : Header = (codes "allow", methods_at c.in-NoMethod.resource) in
    plain_so c.say-in-NoMethod.result c.args.plain (NoMethod c.in-NoMethod.resource) c.in-NoMethod.is c.args.request.now (option_copied c.args.origin) c.args.response.now c.say-in-NoMethod.new.response text
    (on_ok_weaker c.say-in-NoMethod.result
    (λ (says : (code : ℕ) (sent : List Header) → IsResponse code sent [] c.allow.new.response → IsResponse 405 (sent ++ text_fields) text c.say-in-NoMethod.new.response) (code : ℕ) (sent : List Header) (was : IsResponse code sent [] c.args.response.now).
    let is = says code (sent ++ allowed ∷ []) (c.in_ok-allow-in-NoMethod.ensures code sent was) in
    record { status = is.status; headers = is.headers ∙ append_assoc sent (allowed ∷ []) text_fields; body = is.body }) c.say-in-NoMethod.ensures)

pub returns-in-NoPath : goal.returns-in-NoPath
returns-in-NoPath c = plain_so c.say-in-NoPath.result c.args.plain NoPath c.in-NoPath.is c.args.request.now (option_copied c.args.origin) c.args.response.now c.say-in-NoPath.new.response (codes "{\"why\":\"no such path\"}\n") c.say-in-NoPath.ensures

pub returns-in-Foreign : goal.returns-in-Foreign
returns-in-Foreign c = plain_so c.say-in-Foreign.result c.args.plain Foreign c.in-Foreign.is c.args.request.now (option_copied c.args.origin) c.args.response.now c.say-in-Foreign.new.response (codes "{\"why\":\"a page of another origin\"}\n") c.say-in-Foreign.ensures

pub returns-in-Nameless : goal.returns-in-Nameless
returns-in-Nameless c = plain_so c.say-in-Nameless.result c.args.plain Nameless c.in-Nameless.is c.args.request.now (option_copied c.args.origin) c.args.response.now c.say-in-Nameless.new.response (codes "{\"why\":\"no cookie: GET /upload gives one\"}\n") c.say-in-Nameless.ensures

pub returns-in-BadType : goal.returns-in-BadType
returns-in-BadType c = plain_so c.say-in-BadType.result c.args.plain BadType c.in-BadType.is c.args.request.now (option_copied c.args.origin) c.args.response.now c.say-in-BadType.new.response (codes "{\"why\":\"neither JSON nor plain text\"}\n") c.say-in-BadType.ensures

pub returns-in-TooLong : goal.returns-in-TooLong
returns-in-TooLong c = plain_so c.say-in-TooLong.result c.args.plain TooLong c.in-TooLong.is c.args.request.now (option_copied c.args.origin) c.args.response.now c.say-in-TooLong.new.response (codes "{\"why\":\"more than 1 MiB\"}\n") c.say-in-TooLong.ensures
