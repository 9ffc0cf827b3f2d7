use Rattle.std.proofs.Common.{rules}
use Rattle.vrplib_rows.proofs.LongRowLaws.{depot_at, group_at, type_at}
use Rattle.vrplib_rows.proofs.long_row.LongRow.fault.Goals as goal

pub returns-in-Depot : goal.returns-in-Depot
returns-in-Depot c = λ row rows head tail.
    depot_at c.args.section c.args.first c.args.nodes row rows c.args.self.now.tail c.in-Depot.is c.requires tail c.if-self.false c.if-self-nodes.false

pub returns-in-Group : goal.returns-in-Group
returns-in-Group c = λ row rows head tail.
    group_at c.args.section c.args.first c.args.nodes row rows c.args.self.now.tail c.in-Group.is c.requires tail c.if-self.false c.if-self-nodes.false

pub returns-in-VehicleTypes : goal.returns-in-VehicleTypes
returns-in-VehicleTypes c = λ row rows head tail.
    type_at c.args.section c.args.first c.args.nodes row c.args.self.now.head rows c.args.self.now.tail c.type_fault.result c.in-VehicleTypes.is c.requires head (search rules) tail c.if-self.false c.if-self-nodes.false c.type_fault.ensures
