use Rattle.std.proofs.Common.{Global, Vec, List, map, ap, ◌∙◌}
use Rattle.std.proofs.lemmas.Result.{IfOk-weaker}
use Rattle.nv_super.specs.declared.owners.Run.{Run}
use Rattle.nv_json.specs.Json.{array_of, pool_data}
use Rattle.nv_json.proofs.report.free_value.Goals as goal

pub returns : goal.returns
returns c =
    let lists = ap (λ (lists : List (Vec Run Global)). map (λ v. v.items) lists) c.deref.ensures.value ∙ c.in_ok-lists.ensures.lists in
    IfOk-weaker c.pools_value.result _ _ (λ v is. is ∙ ap (λ (pools : List (List Run)). array_of (map pool_data pools)) lists) c.pools_value.ensures
