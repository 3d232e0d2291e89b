use Rattle.client_log.specs.Quota.{IsQuota, max_quota}
use Rattle.site_line.proofs.TakenLaws.{number_taken}
use Rattle.site_line.proofs.refused.takes_quota.Goals as goal

pub returns : goal.returns
returns c = number_taken max_quota IsQuota (λ n within. within) (λ n some few. (some, few)) c.read_quota.result _ c.is_taken.result c.read_quota.ensures.ok c.read_quota.ensures.fails c.is_taken.ensures
