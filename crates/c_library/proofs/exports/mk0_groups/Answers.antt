use Rattle.std.proofs.Common.{◌≡◌, subst, Option, rules}
use Rattle.line_engine.specs.declared.engine.LineEngine.{LineEngine}
use Rattle.c_library.specs.Status.{ListsAt, TellsGroupsOf}
use Rattle.c_library.proofs.exports.mk0_groups.Goals as goal

pub returns : goal.returns
returns c =
    let out = c.groups-listing.new.out in
    let listed = c.groups-listing.result in
    let same : c.deref.result.now ≡ c.in-Some.engine.value = search rules in
    let told = subst (λ (e : LineEngine). TellsGroupsOf e.engine.machine out listed) same c.groups-listing.ensures in
    subst (λ (o : Option LineEngine). ListsAt TellsGroupsOf o out c.listing_status.result c.listing_info.result c.put.new.self.seal.held) c.in-Some.ensures.taken
    (record { answer = listed; new_is = search rules; answer_is = told; status_is = c.listing_status.ensures; info_is = c.listing_info.ensures })
