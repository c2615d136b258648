use Rattle.sf_use.proofs.Decisions as decisions
use Rattle.sf_use.proofs.laws.forbidden_is_validated.Goals as goal

pub returns-clause-no_cache : goal.returns-clause-no_cache
returns-clause-no_cache c = decisions.no_cache_is_validated

pub returns-clause-must_revalidate : goal.returns-clause-must_revalidate
returns-clause-must_revalidate c = decisions.must_revalidate_is_not_served_stale

pub returns-clause-proxy_revalidate : goal.returns-clause-proxy_revalidate
returns-clause-proxy_revalidate c = decisions.proxy_revalidate_is_not_served_stale

pub returns-clause-s_maxage : goal.returns-clause-s_maxage
returns-clause-s_maxage c = decisions.s_maxage_is_not_served_stale
