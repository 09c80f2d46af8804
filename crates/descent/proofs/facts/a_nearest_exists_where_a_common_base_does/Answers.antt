use Rattle.descent.proofs.Computing.{nearest_exists}
use Rattle.descent.proofs.facts.a_nearest_exists_where_a_common_base_does.Goals as goal

pub returns : goal.returns
returns g c s holds computes a b d first second here =
    let m = g.P.Answerer in
    nearest_exists (m.count s) holds (m.relates s) computes (m.laws.reflexive s) (m.laws.transitive s) a b first second d here
