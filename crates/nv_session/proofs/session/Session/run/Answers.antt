use Rattle.nv_session.proofs.session.Session.run.Goals as goal

pub returns-in-Format : goal.returns-in-Format
returns-in-Format g c = rw c.in-Format.is c.format.ensures

pub returns-in-Time : goal.returns-in-Time
returns-in-Time g c = rw c.in-Time.is c.set_time.ensures

pub returns-in-Poke : goal.returns-in-Poke
returns-in-Poke g c = rw c.in-Poke.is c.poke.ensures

pub returns-in-Cut : goal.returns-in-Cut
returns-in-Cut g c = rw c.in-Cut.is c.cut.ensures

pub returns-in-Recover : goal.returns-in-Recover
returns-in-Recover g c = rw c.in-Recover.is c.recover.ensures

pub returns-in-ListNames : goal.returns-in-ListNames
returns-in-ListNames g c = rw c.in-ListNames.is c.list.ensures

pub returns-in-Stat : goal.returns-in-Stat
returns-in-Stat g c = rw c.in-Stat.is c.stat.ensures

pub returns-in-Read : goal.returns-in-Read
returns-in-Read g c = rw c.in-Read.is c.read.ensures

pub returns-in-Tree : goal.returns-in-Tree
returns-in-Tree g c = rw c.in-Tree.is c.show.ensures

pub returns-in-Free : goal.returns-in-Free
returns-in-Free g c = rw c.in-Free.is c.show-in-Free.ensures

pub returns-in-Faults : goal.returns-in-Faults
returns-in-Faults g c = rw c.in-Faults.is c.show-in-Faults.ensures

pub returns-in-Report : goal.returns-in-Report
returns-in-Report g c = rw c.in-Report.is c.show-in-Report.ensures

pub returns-in-Peek : goal.returns-in-Peek
returns-in-Peek g c = rw c.in-Peek.is c.peek.ensures

pub returns-in-Stop : goal.returns-in-Stop
returns-in-Stop g c = rw c.in-Stop.is c.arm.ensures
