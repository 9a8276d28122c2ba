use Rattle.std.proofs.Common.{refl}
use Rattle.form.specs.Form.{size}
use Rattle.form.proofs.Arms.{two, three, four, six}
use Rattle.form.proofs.Form.size.Goals as goal

pub returns-in-E : goal.returns-in-E
returns-in-E c = two size refl refl c.in-E.is

pub returns-in-RiA : goal.returns-in-RiA
returns-in-RiA c = three size refl refl refl c.in-RiA.is

pub returns-in-Rrd : goal.returns-in-Rrd
returns-in-Rrd c = four size refl refl refl refl c.in-Rrd.is

pub returns-in-Rs : goal.returns-in-Rs
returns-in-Rs c = three size refl refl refl c.in-Rs.is

pub returns-in-RieA : goal.returns-in-RieA
returns-in-RieA c = four size refl refl refl refl c.in-RieA.is

pub returns-in-RilA : goal.returns-in-RilA
returns-in-RilA c = three size refl refl refl c.in-RilA.is

pub returns-in-Rsy : goal.returns-in-Rsy
returns-in-Rsy c = four size refl refl refl refl c.in-Rsy.is

pub returns-in-VriA : goal.returns-in-VriA
returns-in-VriA c = four size refl refl refl refl c.in-VriA.is

pub returns-in-VrrA : goal.returns-in-VrrA
returns-in-VrrA c = six size refl refl refl refl refl refl c.in-VrrA.is

pub returns-in-VrsA : goal.returns-in-VrsA
returns-in-VrsA c = four size refl refl refl refl c.in-VrsA.is
